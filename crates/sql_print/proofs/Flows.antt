-- Tokens of a print that stand beside each other so that each is read back as itself: between two of them a space, or two that
-- can't be read as one; no reserved word behind `.`; and each holds what the token of a text may hold.
use Rattle.std.proofs.Common.{◌≡◌, ℕ, ◌<◌, ◌^◌, Bool, true, false, not, ◌&&◌, ◌||◌, List, [], ◌∷◌, ◌++◌, Option, refl, sym, subst}
use Rattle.std.proofs.lemmas.List.{append-nil}
use Rattle.std.specs.Prelude.{nat_lt, IsUtf8}
use Rattle.std.specs.List.{list_all}
use Rattle.sql_names.specs.declared.words.Reserved.{Reserved}
use Rattle.sql_ast.specs.declared.words.Sign.{Sign}
use Rattle.sql_ast.specs.declared.words.Sign.TheVariants as s
use Rattle.sql_ast.specs.declared.words.Word.{Word}
use Rattle.sql_ast.specs.declared.token.Token.{Token}
use Rattle.sql_ast.specs.declared.token.Lexeme.{Lexeme}
use Rattle.sql_ast.specs.declared.token.Lexeme.TheVariants as l
use Rattle.sql_ast.specs.Marks.{Tokens}
use Rattle.sql_ast.specs.Values.{is_name, is_dot}
use Rattle.sql_ast.specs.Pieces.{Piece, word, name, sign, close_sign, word_if_plain}
use Rattle.sql_ast.specs.Canon.{angled}

-- ---- what the token of a text holds

abbrev pub IsName : List ℕ → Type 0
IsName n = (is_name n ≡ true) × IsUtf8 n

abbrev pub Good : Lexeme → Type 0
Good (l.Reserved w) = Unit {0}
Good (l.Name n o) = IsName n
Good (l.Integer n) = n < 2 ^ 64
Good (l.Text x) = IsUtf8 x
Good (l.Bytes x) = list_all (λ b. nat_lt b 256) x ≡ true
Good (l.Parameter x) = IsName x
Good (l.Sign x) = Unit {0}

pub data Goods : Tokens → Type 0 where
  goods_none : Goods []
  goods_more : {t : Token} {ts : Tokens} → Good t.lexeme → Goods ts → Goods (t ∷ ts)

pub hd : {t : Token} {ts : Tokens} → Goods (t ∷ ts) → Good t.lexeme
hd (goods_more g gs) = g

pub tl : {t : Token} {ts : Tokens} → Goods (t ∷ ts) → Goods ts
tl (goods_more g gs) = gs

front_of : (u v : Tokens) → Goods (u ++ v) → Goods u
front_of [] v g = goods_none
front_of (t ∷ u) v g = goods_more (hd g) (front_of u v (tl g))

back_of : (u v : Tokens) → Goods (u ++ v) → Goods v
back_of [] v g = g
back_of (t ∷ u) v g = back_of u v (tl g)

pub fr : {u : Tokens} (v : Tokens) → Goods (u ++ v) → Goods u
fr {u} v g = front_of u v g

pub bk : {v : Tokens} (u : Tokens) → Goods (u ++ v) → Goods v
bk {v} u g = back_of u v g

-- a name of a print says which word of the grammar it spells
abbrev pub Worded : Lexeme → Type 0
Worded (l.Name n o) = o ≡ word_if_plain n
Worded _ = Unit {0}

abbrev pub Fine : Lexeme → Type 0
Fine x = Good x × Worded x

-- ---- how two tokens stand beside each other

abbrev pub quiet_sign : Sign → Bool
quiet_sign s.OpenRound = true
quiet_sign s.CloseRound = true
quiet_sign s.OpenSquare = true
quiet_sign s.CloseSquare = true
quiet_sign s.Comma = true
quiet_sign s.Dot = true
quiet_sign _ = false

-- brackets, `,` and `.`, which go together with nothing
abbrev pub quiet : Lexeme → Bool
quiet (l.Sign x) = quiet_sign x
quiet _ = false

abbrev pub less_sign : Sign → Bool
less_sign s.Less = true
less_sign _ = false

abbrev pub is_less : Lexeme → Bool
is_less (l.Sign x) = less_sign x
is_less _ = false

abbrev pub greater_sign : Sign → Bool
greater_sign s.Greater = true
greater_sign _ = false

abbrev pub is_greater : Lexeme → Bool
is_greater (l.Sign x) = greater_sign x
is_greater _ = false

abbrev pub is_reserved : Lexeme → Bool
is_reserved (l.Reserved w) = true
is_reserved _ = false

abbrev pub is_named : Lexeme → Bool
is_named (l.Name n o) = true
is_named _ = false

-- a word or a name
abbrev pub lettered : Lexeme → Bool
lettered x = is_reserved x || is_named x

-- two that may stand together without a space
abbrev pub fits : Lexeme → Lexeme → Bool
fits p q = quiet q || (quiet p || ((lettered p && (is_less q || is_greater q)) || ((is_less p && lettered q) || (is_greater p && is_greater q))))

abbrev pub meets : Piece → Piece → Bool
meets p q = ((p.behind && q.before) || fits p.lexeme q.lexeme) && not (is_dot p.lexeme && is_reserved q.lexeme)

-- what may begin a run, and what may end one
abbrev pub opens_well : Piece → Bool
opens_well p = p.before || quiet p.lexeme

abbrev pub ends_well : Piece → Bool
ends_well p = (p.behind || quiet p.lexeme) && not (is_dot p.lexeme)

well : (bp qp d bq qq r s : Bool) → ((bp || qp) && not d) ≡ true → (bq || qq) ≡ true → (((bp && bq) || (qq || (qp || r))) && not (d && s)) ≡ true
well true true true true true r s h g = absurd (cc)
well true true true true false r s h g = absurd (cc)
well true true true false true r s h g = absurd (cc)
well true true true false false r s h g = absurd (cc)
well true true false true true r s h g = refl
well true true false true false r s h g = refl
well true true false false true r s h g = refl
well true true false false false r s h g = absurd (cc)
well true false true true true r s h g = absurd (cc)
well true false true true false r s h g = absurd (cc)
well true false true false true r s h g = absurd (cc)
well true false true false false r s h g = absurd (cc)
well true false false true true r s h g = refl
well true false false true false r s h g = refl
well true false false false true r s h g = refl
well true false false false false r s h g = absurd (cc)
well false true true true true r s h g = absurd (cc)
well false true true true false r s h g = absurd (cc)
well false true true false true r s h g = absurd (cc)
well false true true false false r s h g = absurd (cc)
well false true false true true r s h g = refl
well false true false true false r s h g = refl
well false true false false true r s h g = refl
well false true false false false r s h g = absurd (cc)
well false false true true true r s h g = absurd (cc)
well false false true true false r s h g = absurd (cc)
well false false true false true r s h g = absurd (cc)
well false false true false false r s h g = absurd (cc)
well false false false true true r s h g = absurd (cc)
well false false false true false r s h g = absurd (cc)
well false false false false true r s h g = absurd (cc)
well false false false false false r s h g = absurd (cc)

pub meets_well : (p q : Piece) → ends_well p ≡ true → opens_well q ≡ true → meets p q ≡ true
meets_well p q h g =
    well p.behind (quiet p.lexeme) (is_dot p.lexeme) q.before (quiet q.lexeme)
    ((lettered p.lexeme && (is_less q.lexeme || is_greater q.lexeme)) || ((is_less p.lexeme && lettered q.lexeme) || (is_greater p.lexeme && is_greater q.lexeme))) (is_reserved q.lexeme) h g

never : {A : Type 0} → false ≡ true → A
never h = absurd (let g : true ≡ false = sym h in cc)

quiet_sign_meets : (b c d : Bool) → ((b && c) || true) && not (d && false) ≡ true
quiet_sign_meets true true true = refl
quiet_sign_meets true true false = refl
quiet_sign_meets true false true = refl
quiet_sign_meets true false false = refl
quiet_sign_meets false c true = refl
quiet_sign_meets false c false = refl

quiet_lexeme : (b c d : Bool) (x : Lexeme) (r : Bool) → quiet x ≡ true → ((b && c) || (quiet x || r)) && not (d && is_reserved x) ≡ true
quiet_lexeme b c d (l.Sign x) r h = rw h (quiet_sign_meets b c d)
quiet_lexeme b c d _ r h = never h

-- what goes together with nothing may stand behind each
pub quiet_meets : (p q : Piece) → quiet q.lexeme ≡ true → meets p q ≡ true
quiet_meets p q h = quiet_lexeme p.behind q.before (is_dot p.lexeme) q.lexeme (quiet p.lexeme || ((lettered p.lexeme && (is_less q.lexeme || is_greater q.lexeme)) || ((is_less p.lexeme && lettered q.lexeme) || (is_greater p.lexeme && is_greater q.lexeme)))) h

-- ---- runs of tokens

pub data Runs (E : Piece → Bool) : Piece → List Piece → Type 0 where
  runs_last : {p : Piece} → Fine p.lexeme → E p ≡ true → Runs E p []
  runs_more : {p q : Piece} {ps : List Piece} → Fine p.lexeme → meets p q ≡ true → Runs E q ps → Runs E p (q ∷ ps)

pub runs_join : (E F : Piece → Bool) (p q : Piece) (ps qs : List Piece) → Runs E p ps → ((z : Piece) → E z ≡ true → meets z q ≡ true) → Runs F q qs → Runs F p (ps ++ (q ∷ qs))
runs_join E F p q _ qs (runs_last f h) k y = runs_more f (k p h) y
runs_join E F p q _ qs (runs_more {q = z} {ps = ps} f m x) k y = runs_more f m (runs_join E F z q ps qs x k y)

-- tokens that may stand wherever each begins well
pub data Flow : List Piece → Type 0 where
  flow_none : Flow []
  flow_some : {p : Piece} {ps : List Piece} → opens_well p ≡ true → Runs ends_well p ps → Flow (p ∷ ps)

flow_both : (ps qs : List Piece) → Flow ps → Flow qs → Flow (ps ++ qs)
flow_both _ qs flow_none y = y
flow_both _ _ (flow_some {p = p} {ps = ps} o x) flow_none = subst Flow (sym (append-nil (p ∷ ps))) (flow_some o x)
flow_both _ _ (flow_some {p = p} {ps = ps} o x) (flow_some {p = q} {ps = qs} k y) = flow_some o (runs_join ends_well ends_well p q ps qs x (λ z h. meets_well z q h k) y)

-- one run behind another
pub beside : {ps qs : List Piece} → Flow ps → Flow qs → Flow (ps ++ qs)
beside {ps} {qs} x y = flow_both ps qs x y

-- one token
pub single : {p : Piece} → Fine p.lexeme → opens_well p ≡ true → ends_well p ≡ true → Flow (p ∷ [])
single f o h = flow_some o (runs_last f h)

-- ---- types, which end with a name or `>`, so that what stands behind them is told

abbrev pub opens_type : Piece → Bool
opens_type p = p.before && lettered p.lexeme

abbrev pub ends_type : Piece → Bool
ends_type p = is_named p.lexeme || is_greater p.lexeme

pub data TypeFlow : List Piece → Type 0 where
  type_flow : {p : Piece} {ps : List Piece} → opens_type p ≡ true → Runs ends_type p ps → TypeFlow (p ∷ ps)

opens_both : (b c q : Bool) → (b && c) ≡ true → (b || q) ≡ true
opens_both true c q h = refl
opens_both false c q h = never h

-- a type, and a run behind it that begins with a bracket or `,`
pub typed : (ps : List Piece) (q : Piece) (qs : List Piece) → TypeFlow ps → quiet q.lexeme ≡ true → Flow (q ∷ qs) → Flow (ps ++ (q ∷ qs))
typed _ q qs (type_flow {p = p} {ps = ps} o x) h (flow_some k y) = flow_some (opens_both p.before (lettered p.lexeme) (quiet p.lexeme) o) (runs_join ends_type ends_well p q ps qs x (λ z _. quiet_meets z q h) y)

-- `<` before a type, and `>` behind it
less_lexeme : (b : Bool) (x : Lexeme) → (b && lettered x) ≡ true → (((false && b) || fits (l.Sign s.Less) x) && not (false && is_reserved x)) ≡ true
less_lexeme true (l.Reserved w) h = refl
less_lexeme true (l.Name n o) h = refl
less_lexeme true _ h = never h
less_lexeme false x h = never h

greater_lexeme : (b : Bool) (x : Lexeme) → (is_named x || is_greater x) ≡ true → (((b && false) || fits x (l.Sign s.Greater)) && not (is_dot x && false)) ≡ true
greater_lexeme true (l.Name n o) h = refl
greater_lexeme false (l.Name n o) h = refl
greater_lexeme true (l.Sign s.Greater) h = refl
greater_lexeme false (l.Sign s.Greater) h = refl
greater_lexeme true (l.Sign _) h = never h
greater_lexeme false (l.Sign _) h = never h
greater_lexeme true _ h = never h
greater_lexeme false _ h = never h

in_angles : (w : Reserved) (ps : List Piece) → TypeFlow ps → Runs ends_type (word w) (angled ps)
in_angles w _ (type_flow {p = p} {ps = ps} o x) =
    runs_more (tt, tt) refl (runs_more (tt, tt) (less_lexeme p.before p.lexeme o) (runs_join ends_type ends_type p (close_sign s.Greater) ps [] x (λ z h. greater_lexeme z.behind z.lexeme h) (runs_last (tt, tt) refl)))

-- ARRAY or STRUCT and what stands in its angles
pub angled_type : (w : Reserved) (ps : List Piece) → TypeFlow ps → TypeFlow (word w ∷ angled ps)
angled_type w ps x = type_flow refl (in_angles w ps x)

comma_meets : (b : Bool) (x : Lexeme) → (b && lettered x) ≡ true → (((true && b) || fits (l.Sign s.Comma) x) && not (false && is_reserved x)) ≡ true
comma_meets true x h = refl
comma_meets false x h = never h

-- a type behind a `,`
pub type_comma : (ps qs : List Piece) → TypeFlow ps → TypeFlow qs → TypeFlow (ps ++ (sign s.Comma ∷ qs))
type_comma _ _ (type_flow {p = p} {ps = ps} o x) (type_flow {p = q} {ps = qs} k y) =
    type_flow o (runs_join ends_type ends_type p (sign s.Comma) ps (q ∷ qs) x (λ z _. quiet_meets z (sign s.Comma) refl) (runs_more (tt, tt) (comma_meets q.before q.lexeme k) y))

name_meets : (b : Bool) (n : List ℕ) (o : Option Word) (x : Lexeme) → (b && lettered x) ≡ true → (((true && b) || fits (l.Name n o) x) && not (false && is_reserved x)) ≡ true
name_meets true n o x h = refl
name_meets false n o x h = never h

-- a type behind a name
pub type_named : (n : List ℕ) (ps : List Piece) → IsName n → TypeFlow ps → TypeFlow (name n ∷ ps)
type_named n _ g (type_flow {p = p} o x) = type_flow refl (runs_more (g, refl) (name_meets p.before n (word_if_plain n) p.lexeme o) x)

pub type_name : (n : List ℕ) → IsName n → TypeFlow (name n ∷ [])
type_name n g = type_flow refl (runs_last (g, refl) refl)
