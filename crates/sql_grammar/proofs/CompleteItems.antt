-- Items of a select list are read, and the word EXCEPT behind a `*`, which may be that of a set operation.
use Rattle.std.proofs.Common.{◌≡◌, ◌⊎◌, inl, inr, ℕ, zero, suc, ◌<◌, ◌≤◌, Bool, true, false, List, [], ◌∷◌, ◌++◌, length, Option, Some, None, refl, sym, ◌∙◌, ap, arith}
use Rattle.std.proofs.lemmas.List.{append_assoc, length-append}
use Rattle.fronts.specs.Readers.{Outcome, taken, and_then, comes, next}
use Rattle.fronts.proofs.Agrees.{Many, many_none, many_more}
use Rattle.sql_ast.specs.declared.clauses.Edit.{Edit}
use Rattle.sql_ast.specs.declared.clauses.Item.{Item}
use Rattle.sql_ast.specs.declared.clauses.Item.TheVariants as item_kind
use Rattle.sql_ast.specs.declared.clauses.Name.{Name}
use Rattle.sql_ast.specs.declared.clauses.Replacement.{Replacement}
use Rattle.sql_ast.specs.declared.expr.Expr.{Expr}
use Rattle.sql_names.specs.declared.words.Reserved.TheVariants as r
use Rattle.sql_ast.specs.declared.words.Sign.TheVariants as s
use Rattle.sql_ast.specs.declared.words.Word.TheVariants as w
use Rattle.sql_ast.specs.declared.token.Token.{Token}
use Rattle.sql_ast.specs.declared.token.Lexeme.{Lexeme}
use Rattle.sql_ast.specs.declared.token.Lexeme.TheVariants as l
use Rattle.sql_ast.specs.Marks.{Tokens, Is, reserved, sign, same_reserved, reserved_lexeme, start_of}
use Rattle.sql_ast.specs.Parts.{AliasOf, names_are}
use Rattle.sql_ast.specs.Grammar.{ExprOf, PostfixOf, ItemOf, item_star, item_qualified, item_expr, EditOf, edit_is, except_none, except_is, ReplaceOf, replace_none, replace_is, ReplacementOf, replacement_is, ReplacementsOf, replacements_none, replacements_more}
use Rattle.sql_grammar.specs.Classes.{class_of, item_by_prefix, item_by_basic, no_item, item_class}
use Rattle.sql_grammar.specs.Exprs.{Below, postfix_or_star, expr_from}
use Rattle.sql_grammar.specs.Queries.{replacement, comma_replacement, replaces, except_or_end, edited, aliased, item_after, item_by, item_or_except}
use Rattle.sql_grammar.proofs.Marks.{AfterOf, after_of}
use Rattle.sql_grammar.proofs.Ways.{start_front}
use Rattle.sql_grammar.proofs.Solid.{solid_postfix, no_expr}
use Rattle.sql_grammar.proofs.Follows.{Over, Starts, rank}
use Rattle.sql_grammar.proofs.CompleteSteps.{Read, Free, less, under, tok, also, part, last, then_on, else_on, peeked, done, weak, over_r, over_s, over_not_w, s_test, w_test, after_read, after_begins, over_many, comma_level, to}
use Rattle.sql_grammar.proofs.CompleteStarts.{postfix_starts, expr_starts}
use Rattle.sql_grammar.proofs.CompleteRepeats.{begun_only}
use Rattle.sql_grammar.proofs.CompleteWords.{alias_read, alias_ahead, over_no_alias, names_read}
use Rattle.sql_grammar.proofs.CompleteFronts.{expr_front}
use Rattle.sql_grammar.proofs.CompleteParts.{Reading}
use Rattle.sql_grammar.proofs.CompleteStars.{postfix_plain, postfix_starred}
use Rattle.sql_grammar.proofs.CompleteBehind.{behind_postfix}

-- ---- a word EXCEPT that may be read behind a word

-- no bracket stands behind EXCEPT, where it comes next
pub record NoEdit (rest : Tokens) : Type 0 where
  pub no_edit : (x : Token) (left : Tokens) → rest ≡ x ∷ left → Is (reserved r.Except) x → comes (sign s.OpenRound) left ≡ false

-- a word was read, and EXCEPT behind it
pub record KeptBy {A : Type 0} (o : Outcome Token (A × Option Token)) (a : A) (rest : Tokens) : Type 0 where
  pub word : Token
  pub left : Tokens
  pub is : rest ≡ word ∷ left
  pub except : Is (reserved r.Except) word
  pub reads : o ≡ taken (a, Some word) left

abbrev pub Kept : {A : Type 0} → Outcome Token (A × Option Token) → A → Tokens → Type 0
Kept o a rest = (o ≡ taken (a, None) rest) ⊎ KeptBy o a rest

pub kept_as : {A : Type 0} (o q : Outcome Token (A × Option Token)) (a : A) (rest : Tokens) → o ≡ q → Kept q a rest → Kept o a rest
kept_as o q a rest e (inl h) = inl (e ∙ h)
kept_as o q a rest e (inr h) = inr (record { word = h.word; left = h.left; is = h.is; except = h.except; reads = e ∙ h.reads })

-- as another tree
pub kept_map : {A B : Type 0} (f : A → B) (o : Outcome Token (A × Option Token)) (a : A) (rest : Tokens) → Kept o a rest → Kept (and_then o (λ x. λ ts. taken (f x.0, x.1) ts)) (f a) rest
kept_map f o a rest (inl h) = inl (ap (λ o. and_then o (λ x. λ ts. taken (f x.0, x.1) ts)) h)
kept_map f o a rest (inr h) = inr (record { word = h.word; left = h.left; is = h.is; except = h.except; reads = ap (λ o. and_then o (λ x. λ ts. taken (f x.0, x.1) ts)) h.reads })

-- where EXCEPT doesn't come next, none was read
pub kept_none : {A : Type 0} (o : Outcome Token (A × Option Token)) (a : A) (rest : Tokens) → comes (reserved r.Except) rest ≡ false → Kept o a rest → o ≡ taken (a, None) rest
kept_none o a rest h (inl g) = g
kept_none o a rest h (inr g) = absurd (let e : true ≡ false = sym g.except.is ∙ ap (comes (reserved r.Except)) (sym g.is) ∙ h in cc)

-- ---- repetitions and classes

many_replacements : (ms : List (Replacement Expr)) (v : Tokens) → ReplacementsOf ms v → Many (AfterOf (sign s.Comma) ReplacementOf) ms v
many_replacements _ _ replacements_none = many_none
many_replacements _ _ (replacements_more {ms = ms} {v = v} i l z) = many_more (after_of i l) (many_replacements ms v z)

item_basic : (x : Lexeme) → rank x ≤ 1 → item_class x ≡ item_by_basic
item_basic (l.Sign s.OpenRound) h = refl
item_basic (l.Sign s.OpenSquare) h = refl
item_basic (l.Sign _) h = absurd (omega arith)
item_basic (l.Reserved r.True) h = refl
item_basic (l.Reserved r.False) h = refl
item_basic (l.Reserved r.Null) h = refl
item_basic (l.Reserved r.If) h = refl
item_basic (l.Reserved r.Case) h = refl
item_basic (l.Reserved r.Cast) h = refl
item_basic (l.Reserved r.Extract) h = refl
item_basic (l.Reserved r.Grouping) h = refl
item_basic (l.Reserved r.Exists) h = refl
item_basic (l.Reserved r.Array) h = refl
item_basic (l.Reserved r.Struct) h = refl
item_basic (l.Reserved r.With) h = refl
item_basic (l.Reserved _) h = absurd (omega arith)
item_basic _ h = refl

item_prefix : (x : Lexeme) → 1 < rank x → rank x ≤ 3 → item_class x ≡ item_by_prefix
item_prefix (l.Sign s.Plus) h g = refl
item_prefix (l.Sign s.Minus) h g = refl
item_prefix (l.Sign s.Tilde) h g = refl
item_prefix (l.Sign _) h g = absurd (omega arith)
item_prefix (l.Reserved r.Not) h g = refl
item_prefix (l.Reserved _) h g = absurd (omega arith)
item_prefix _ h g = absurd (omega arith)

basic_next : (ts : Tokens) → Starts 1 ts → class_of no_item item_class (next ts) ≡ item_by_basic
basic_next [] h = absurd (let g = h.starts in omega arith)
basic_next (t ∷ ts) h = item_basic t.lexeme h.starts

-- a number is at most one, or more
split_rank : (k : ℕ) → (k ≤ 1) ⊎ (1 < k)
split_rank zero = inl (omega arith)
split_rank (suc zero) = inl (omega arith)
split_rank (suc (suc k)) = inr (omega arith)

module _ (n : ℕ) (b : Below) (x : Reading n b) where
  -- ---- edits

  replacement_read : Read n Free ReplacementOf (replacement n b)
  unfolding replacement
  replacement_read = record { reads = by }
    where
      by : {a : Replacement Expr} {u : Tokens} → ReplacementOf a u → (rest : Tokens) → Unit {0} → length (u ++ rest) < n → replacement n b (u ++ rest) ≡ taken a rest
      by (replacement_is {t = t} {n = k} l i j) rest f = part x.inner l (t ∷ k ∷ []) rest _ (over_r r.As i (omega arith)) (also i _ (also j _ done))

  comma_replacement_read : Read (suc n) Free (AfterOf (sign s.Comma) ReplacementOf) (comma_replacement n b)
  unfolding comma_replacement
  comma_replacement_read = after_read replacement_read

  replaces_read : Read (suc n) (Over 11) ReplaceOf (replaces n b)
  unfolding replaces
  replaces_read = record { reads = by }
    where
      by : {a : List (Replacement Expr)} {u : Tokens} → ReplaceOf a u → (rest : Tokens) → Over 11 rest → length (u ++ rest) < suc n → replaces n b (u ++ rest) ≡ taken a rest
      by replace_none rest f = else_on (over_not_w f w.Replace (omega arith)) _ _ done
      by (replace_is {c = c} {a = a} {ms = ms} {v = v} i io l z ic) rest f = then_on i.is _ _ (tok i _ (also io _ (part replacement_read l (v ++ (c ∷ [])) rest _ tt
          (part (less (over_many {j = 14} (sign s.Comma) comma_level (omega arith) (after_begins (sign s.Comma) ReplacementOf) (under comma_replacement_read (λ ts h. tt)) (a ∷ []) many_replacements)) (ms, z, refl) (c ∷ []) rest _ (over_s s.CloseRound ic (omega arith))
          (also ic _ done)))))

  edit_by : (make : Edit Expr → Item Expr) (d : Edit Expr) (v : Tokens) → EditOf d v → (rest : Tokens) → Over 11 rest → NoEdit rest → length (v ++ rest) < suc n → Kept (edited n b make (v ++ rest)) (make d) rest
  unfolding edited except_or_end same_reserved
  edit_by make _ _ (edit_is (except_is i (names_are {o = o} io jn z ic)) m) rest f g lt = inl (then_on i.is _ _ (tok i _ (then_on io.is _ _ (part (less (names_read n)) (names_are io jn z ic) _ rest _ tt (last (less replaces_read) m _ f done)))) lt)
  edit_by make _ _ (edit_is except_none (replace_is i io l z ic)) rest f g lt = inl (else_on (w_test w.Replace (reserved_lexeme r.Except) i (λ n. refl)) _ _ (last replaces_read (replace_is i io l z ic) _ f done) lt)
  edit_by make _ _ (edit_is except_none replace_none) rest f g lt = by_rest rest f g lt
    where
      by_word : (t : Token) (ts : Tokens) → Over 11 (t ∷ ts) → NoEdit (t ∷ ts) → length (t ∷ ts) < suc n → (c : Bool) → reserved r.Except t ≡ c → Kept (edited n b make (t ∷ ts)) (make (record { except = []; replace = [] })) (t ∷ ts)
      by_word t ts f g lt true h = inr (record { word = t; left = ts; is = refl; except = record { is = h }; reads = then_on h _ _ (tok (record { is = h }) _ (else_on (g.no_edit t ts refl (record { is = h })) _ _ done)) lt })
      by_word t ts f g lt false h = inl (else_on h _ _ (last replaces_read replace_none _ f done) lt)

      by_rest : (ts : Tokens) → Over 11 ts → NoEdit ts → length ts < suc n → Kept (edited n b make ts) (make (record { except = []; replace = [] })) ts
      by_rest [] f g lt = inl (last replaces_read replace_none _ f done lt)
      by_rest (t ∷ ts) f g lt = by_word t ts f g lt (reserved r.Except t) refl

  -- ---- items

  aliased_by : (p : ℕ) (a : Expr) (c : Option Name) (v : Tokens) → AliasOf c v → (rest : Tokens) → Over 11 rest → length (v ++ rest) < suc n → aliased n b p a (v ++ rest) ≡ taken (item_kind.Expr a c p, None) rest
  unfolding aliased
  aliased_by p a c v l rest f = last (alias_read (suc n)) l _ (over_no_alias f) done

  -- an expression that begins with neither NOT nor a prefix
  basic_item : (a : Expr) (u : Tokens) → ExprOf a u → (c : Option Name) (v : Tokens) → AliasOf c v → (rest : Tokens) → Over 14 rest → Starts 1 (u ++ (v ++ rest)) → length (u ++ (v ++ rest)) < suc n
      → item_by n b (start_of u) item_by_basic (u ++ (v ++ rest)) ≡ taken (item_kind.Expr a c (start_of u), None) rest
  basic_item a u l c v m rest f h lt =
      let g = expr_front a u l (v ++ rest) h in
      let over : Over 10 (v ++ rest) = to (alias_ahead c v m) (omega arith) (weak (omega arith) f) in
      let is : u ++ (v ++ rest) ≡ g.text ++ (g.more ++ (v ++ rest)) = ap (λ (q : Tokens). q ++ (v ++ rest)) g.splits ∙ append_assoc g.text g.more (v ++ rest) in
      let same : length (u ++ (v ++ rest)) ≡ length (g.text ++ (g.more ++ (v ++ rest))) = ap length is in
      let more = length-append u (v ++ rest) in
      let place : start_of u ≡ start_of g.text = ap start_of g.splits ∙ start_front g.text g.more (solid_postfix g.first g.text g.spells) in
      ap (λ o. and_then o (λ y. item_after n b (start_of u) y.0 y.1)) (ap (postfix_or_star n b true) is ∙ postfix_plain n b x true g.first g.text g.spells (g.more ++ (v ++ rest)) (g.follows (v ++ rest) (weak (omega arith) over)) (omega arith))
      ∙ ap (λ o. and_then o (aliased n b (start_of u))) (ap (λ p. expr_from n b p g.first (g.more ++ (v ++ rest))) place ∙ behind_postfix n b x a u l g (v ++ rest) over h (omega arith))
      ∙ aliased_by (start_of u) a c v m rest (weak (omega arith) f) (omega arith)

  prefix_item : (p : ℕ) (a : Expr) (u : Tokens) → ExprOf a u → (c : Option Name) (v : Tokens) → AliasOf c v → (rest : Tokens) → Over 14 rest → length (u ++ (v ++ rest)) < n
      → item_by n b p item_by_prefix (u ++ (v ++ rest)) ≡ taken (item_kind.Expr a c p, None) rest
  prefix_item p a u l c v m rest f = last x.inner l _ (to (alias_ahead c v m) (omega arith) (weak (omega arith) f)) (λ lt. aliased_by p a c v m rest (weak (omega arith) f) (omega arith))

  expr_item : (a : Expr) (u : Tokens) → ExprOf a u → (c : Option Name) (v : Tokens) → AliasOf c v → (rest : Tokens) → Over 14 rest → length (u ++ (v ++ rest)) < n
      → item_or_except n b (u ++ (v ++ rest)) ≡ taken (item_kind.Expr a c (start_of u), None) rest
  unfolding item_or_except
  expr_item a [] l c v m rest f lt = absurd (no_expr a l)
  expr_item a (t ∷ u) l c v m rest f lt = by (split_rank (rank t.lexeme))
    where
      by : (rank t.lexeme ≤ 1) ⊎ (1 < rank t.lexeme) → item_or_except n b ((t ∷ u) ++ (v ++ rest)) ≡ taken (item_kind.Expr a c t.start, None) rest
      by (inl h) = peeked {N = Unit {0}} (class_of no_item item_class) (item_by n b t.start) (item_basic t.lexeme h) (λ _. basic_item a (t ∷ u) l c v m rest f (record { starts = h }) (omega arith)) tt
      by (inr h) = peeked {N = Unit {0}} (class_of no_item item_class) (item_by n b t.start) (item_prefix t.lexeme h (expr_starts a (t ∷ u) [] l).starts) (λ _. prefix_item t.start a (t ∷ u) l c v m rest f lt) tt

  qualified_item : (a : Expr) (u : Tokens) → PostfixOf a u → (t k : Token) → Is (sign s.Dot) t → Is (sign s.Star) k → (d : Edit Expr) (v : Tokens) → EditOf d v → (rest : Tokens) → Over 14 rest → NoEdit rest
      → length (u ++ (t ∷ k ∷ (v ++ rest))) < n → Kept (item_or_except n b (u ++ (t ∷ k ∷ (v ++ rest)))) (item_kind.QualifiedStar a d (start_of u)) rest
  unfolding item_or_except
  qualified_item a u l t k it ik d v m rest f g lt =
      let more = length-append u (t ∷ k ∷ (v ++ rest)) in
      let reads = postfix_starred n b x t k it ik (v ++ rest) a u l (omega arith) in
      kept_as _ (edited n b (λ d. item_kind.QualifiedStar a d (start_of u)) (v ++ rest)) (item_kind.QualifiedStar a d (start_of u)) rest
      (begun_only {N = Unit {0}} (λ p. λ ts. item_by n b p (class_of no_item item_class (next ts)) ts) u (t ∷ k ∷ (v ++ rest)) (solid_postfix a u l)
      (λ _. peeked {N = Unit {0}} (class_of no_item item_class) (item_by n b (start_of u)) (basic_next (u ++ (t ∷ k ∷ (v ++ rest))) (postfix_starts a u (t ∷ k ∷ (v ++ rest)) l))
      (λ _. ap (λ o. and_then o (λ y. item_after n b (start_of u) y.0 y.1)) reads) tt) tt)
      (edit_by (λ d. item_kind.QualifiedStar a d (start_of u)) d v m rest (weak (omega arith) f) g (omega arith))

  star_item : (t : Token) → Is (sign s.Star) t → (d : Edit Expr) (v : Tokens) → EditOf d v → (rest : Tokens) → Over 14 rest → NoEdit rest → length (t ∷ (v ++ rest)) < n
      → Kept (item_or_except n b (t ∷ (v ++ rest))) (item_kind.Star d t.start) rest
  unfolding item_or_except
  star_item t it d v m rest f g lt =
      kept_as _ (edited n b (λ d. item_kind.Star d t.start) (v ++ rest)) (item_kind.Star d t.start) rest
      (peeked {N = Unit {0}} (class_of no_item item_class) (item_by n b t.start) {ts = t ∷ (v ++ rest)} (s_test s.Star item_class it refl) (λ _. also {n = n} it _ done lt) tt)
      (edit_by (λ d. item_kind.Star d t.start) d v m rest (weak (omega arith) f) g (omega arith))

  -- an item, and the word EXCEPT behind it, if it is read
  pub item_by_rest : (i : Item Expr) (u : Tokens) → ItemOf i u → (rest : Tokens) → Over 14 rest → NoEdit rest → length (u ++ rest) < n → Kept (item_or_except n b (u ++ rest)) i rest
  item_by_rest _ _ (item_star {t = t} {d = d} {u = v} i m) rest f g lt = star_item t i d v m rest f g lt
  item_by_rest _ _ (item_qualified {a = a} {t = t} {x = k} {d = d} {u = u} {v = v} l it ik m) rest f g lt =
      kept_as _ (item_or_except n b (u ++ (t ∷ k ∷ (v ++ rest)))) (item_kind.QualifiedStar a d (start_of u)) rest (ap (item_or_except n b) (append_assoc u (t ∷ k ∷ v) rest))
      (qualified_item a u l t k it ik d v m rest f g (let h : length ((u ++ (t ∷ k ∷ v)) ++ rest) ≡ length (u ++ (t ∷ k ∷ (v ++ rest))) = ap length (append_assoc u (t ∷ k ∷ v) rest) in omega arith))
  item_by_rest _ _ (item_expr {a = a} {n = c} {u = u} {v = v} l m) rest f g lt =
      inl (ap (item_or_except n b) (append_assoc u v rest) ∙ expr_item a u l c v m rest f (let h : length ((u ++ v) ++ rest) ≡ length (u ++ (v ++ rest)) = ap length (append_assoc u v rest) in omega arith))
