-- The readers of set operations are exact: each item of theirs says what the next begins with.
use Rattle.std.proofs.Common.{◌≡◌, ℕ, zero, suc, ◌-◌, ◌≤◌, Bool, true, false, List, [], ◌∷◌, ◌++◌, length, Option, Some, None, refl, sym, ◌∙◌, subst, arith}
use Rattle.std.proofs.lemmas.List.{append_assoc, append-nil}
use Rattle.fronts.specs.Fronts.{Language}
use Rattle.fronts.specs.Readers.{Reader, ◌>>=◌, pure, refuse}
use Rattle.fronts.proofs.Agrees.{Found}
use Rattle.fronts.proofs.Exact.{Exact, bind, last, into, done, less, exact_none, exact_exhausted, exact_bind, exact_lower, exact_refuse}
use Rattle.sql_types.specs.declared.kinds.SetKind.{SetKind}
use Rattle.sql_types.specs.declared.kinds.SetKind.TheVariants as set
use Rattle.sql_ast.specs.declared.query.SetTerm.{SetTerm}
use Rattle.sql_ast.specs.declared.query.Term.{Term}
use Rattle.sql_ast.specs.declared.token.Lexeme.{Lexeme}
use Rattle.sql_ast.specs.declared.token.Lexeme.TheVariants as l
use Rattle.sql_ast.specs.declared.token.Token.{Token}
use Rattle.sql_names.specs.declared.words.Reserved.{Reserved}
use Rattle.sql_names.specs.declared.words.Reserved.TheVariants as r
use Rattle.sql_ast.specs.Marks.{Tokens, Is, reserved, reserved_lexeme, same_reserved, start_of}
use Rattle.sql_ast.specs.Trees.{set_word, set_quantifier}
use Rattle.sql_ast.specs.Grammar.{BodyOf, SetTermsOf, TermOf, body_is, set_terms_more, set_terms_none}
use Rattle.sql_grammar.specs.Ways.{following}
use Rattle.sql_grammar.specs.Classes.{SetWord, a_union, an_intersect, an_except, set_lexeme, set_word_of, set_kind_by}
use Rattle.sql_grammar.specs.Exprs.{tells, told, Below}
use Rattle.sql_grammar.specs.Queries.{set_next, set_term, set_item, set_terms, set_first, sets_from}
use Rattle.sql_grammar.proofs.Ways.{start_front}
use Rattle.sql_grammar.proofs.Marks.{the_reserved, is_example, a_set_word, tok, opt, opt_also}
use Rattle.sql_grammar.proofs.Calls.{Under}
use Rattle.sql_grammar.proofs.Selects.{Longer, Excepted, plainly, excepted}
use Rattle.sql_grammar.proofs.Clauses.{solid_term, some_term, term_exact}

-- ---- items as long as each says what the next begins with

-- V says which beginnings are right, L e has the items that are read behind e, and LS e the lists of items
module _ {C A E : Type 0} (V : E → Type 0) (L : E → Language C (A × Option E)) (LS : E → Language C (List A)) (item item' : E → Reader C (A × Option E))
    (ends : (e : E) (a : A) (u : List C) → V e → L e (a, None) u → LS e (a ∷ []) u)
    (more : (e : E) (a : A) (f : E) (u : List C) (ls : List A) (v : List C) → V e → L e (a, Some f) u → LS f ls v → LS e (a ∷ ls) (u ++ v))
    (right : (e : E) (a : A) (f : E) (u : List C) → V e → L e (a, Some f) u → V f) where
  further : (found : List A) (e : E) → V e → (a : A) (f : E) (u : List C) → L e (a, Some f) u → (b : List A) (v : List C) → Found (LS f) (found ++ a ∷ []) b v → Found (LS e) found b (u ++ v)
  further found e ok a f u l b v (ls, s, is) = (a ∷ ls, more e a f u ls v ok l s, is ∙ append_assoc found (a ∷ []) ls)

  -- behind an item
  pub next_exact : (n m i : ℕ) → ((found : List A) (f : E) → V f → Exact i (Found (LS f) found) (following item n found (Some f)) (following item' m found (Some f))) → (found : List A) (e : E) → V e → (a : A × Option E) (u : List C) → L e a u
      → Exact i (λ b v. Found (LS e) found b (u ++ v)) (following item n (found ++ a.0 ∷ []) a.1) (following item' m (found ++ a.0 ∷ []) a.1)
  unfolding following
  next_exact n m i y found e ok (a, None) u l = done (subst (λ (w : List C). Found (LS e) found (found ++ a ∷ []) w) (sym (append-nil u)) (a ∷ [], ends e a u ok l, refl))
  next_exact n m i y found e ok (a, Some f) u l = into (y (found ++ a ∷ []) f (right e a f u ok l)) (further found e ok a f u l)

module _ {C A E : Type 0} (V : E → Type 0) (L : E → Language C (A × Option E)) (LS : E → Language C (List A)) (item item' : E → Reader C (A × Option E))
    (some : (e : E) → V e → (ls : List A) × (u : List C) × LS e ls u)
    (ends : (e : E) (a : A) (u : List C) → V e → L e (a, None) u → LS e (a ∷ []) u)
    (more : (e : E) (a : A) (f : E) (u : List C) (ls : List A) (v : List C) → V e → L e (a, Some f) u → LS f ls v → LS e (a ∷ ls) (u ++ v))
    (right : (e : E) (a : A) (f : E) (u : List C) → V e → L e (a, Some f) u → V f)
    (solid : (e : E) (a : A × Option E) (u : List C) → L e a u → 1 ≤ length u) where
  -- the same reader on both sides
  same_exact : ((e : E) → V e → Exact 0 (L e) (item' e) (item' e)) → (m : ℕ) (found : List A) (e : E) → V e → Exact 0 (Found (LS e) found) (following item' m found (Some e)) (following item' m found (Some e))
  unfolding following
  same_exact x zero found e ok = let g = some e ok in exact_none (Found (LS e) found) (found ++ g.0) g.1 (g.0, g.2, refl)
  same_exact x (suc m) found e ok = exact_bind 0 0 (L e) (Found (LS e) found) (item' e) (item' e) (λ a. following item' m (found ++ a.0 ∷ []) a.1) (λ a. following item' m (found ++ a.0 ∷ []) a.1) (λ a u l. omega arith)
      (λ a u l. next_exact V L LS item' item' ends more right m m 0 (λ more f ok. same_exact x m more f ok) found e ok a u l) (x e ok)

  pub exact_following : (n m i : ℕ) → n ≤ m → i ≤ n → ((e : E) → V e → Exact i (L e) (item e) (item' e)) → (found : List A) (e : E) → V e → Exact i (Found (LS e) found) (following item n found (Some e)) (following item' m found (Some e))
  unfolding following
  exact_following zero m i up le x found e ok = exact_lower (Found (LS e) found) (following item zero found (Some e)) (following item' m found (Some e)) i 0 (omega arith)
      (exact_exhausted (Found (LS e) found) _ _ 0 (same_exact (λ f k. record { near = (x f k).far; far = (x f k).far; firm = (x f k).firm }) m found e ok))
  exact_following (suc n) zero i up le x found e ok = absurd (omega arith)
  exact_following (suc n) (suc m) i up le x found e ok = exact_bind i (i - 1) (L e) (Found (LS e) found) (item e) (item' e) (λ a. following item n (found ++ a.0 ∷ []) a.1) (λ a. following item' m (found ++ a.0 ∷ []) a.1) (λ a u l. let s = solid e a u l in omega arith)
      (λ a u l. next_exact V L LS item item' ends more right n m (i - 1) (λ more f ok. exact_following n m (i - 1) (omega arith) (omega arith) (λ e ok. exact_lower (L e) (item e) (item' e) (i - 1) i (omega arith) (x e ok)) more f ok) found e ok a u l) (x e ok)

-- ---- the words of set operations

-- the first word, whichever the second is
word_at : (z : Lexeme) (c : Bool) → (elim (set_lexeme z) [ None ↦ false | Some w ↦ true ]) ≡ true → reserved_lexeme (set_word (set_kind_by (elim (set_lexeme z) [ None ↦ a_union | Some w ↦ w ]) c)) z ≡ true
unfolding same_reserved
word_at (l.Reserved r.Union) true h = refl
word_at (l.Reserved r.Union) false h = refl
word_at (l.Reserved r.Intersect) true h = refl
word_at (l.Reserved r.Intersect) false h = refl
word_at (l.Reserved r.Except) true h = refl
word_at (l.Reserved r.Except) false h = refl
word_at (l.Reserved _) c h = absurd cc
word_at _ c h = absurd cc

word_is : (t : Token) (c : Bool) → Is (tells set_word_of) t → Is (reserved (set_word (set_kind_by (told a_union set_word_of t) c))) t
word_is t c h = record { is = word_at t.lexeme c h.is }

all_is : (w : SetWord) → r.All ≡ set_quantifier (set_kind_by w false)
all_is a_union = refl
all_is an_intersect = refl
all_is an_except = refl

distinct_is : (w : SetWord) → r.Distinct ≡ set_quantifier (set_kind_by w true)
distinct_is a_union = refl
distinct_is an_intersect = refl
distinct_is an_except = refl

except_at : (z : Lexeme) → reserved_lexeme r.Except z ≡ true → (elim (set_lexeme z) [ None ↦ false | Some w ↦ true ]) ≡ true
unfolding same_reserved
except_at (l.Reserved r.Except) h = refl
except_at (l.Reserved _) h = absurd cc
except_at _ h = absurd cc

except_is : (t : Token) → Is (reserved r.Except) t → Is (tells set_word_of) t
except_is t h = record { is = except_at t.lexeme h.is }

-- ---- set operations of one kind

-- behind the first word t of one, and the word of the next
pub data TermTo (k : SetKind) (t : Token) : SetTerm Term × Option Token → Tokens → Type 0 where
  term_to : {q : Token} {a : Term} {u : Tokens} → Is (reserved (set_quantifier k)) q → TermOf a u → TermTo k t (record { kind = k; term = a; place = t.start }, None) (q ∷ u)
  term_to_word : {q y : Token} {a : Term} {u : Tokens} → Is (reserved (set_quantifier k)) q → TermOf a u → Is (reserved (set_word k)) y → TermTo k t (record { kind = k; term = a; place = t.start }, Some y) (q ∷ (u ++ (y ∷ [])))

-- the word of the next, or none
pub data NextOf (k : SetKind) : Option Token → Tokens → Type 0 where
  next_none : NextOf k None []
  next_is : {y : Token} → Is (reserved (set_word k)) y → NextOf k (Some y) (y ∷ [])

-- a set operation of these words
abbrev one_of : SetKind → Token → Term → SetTerm Term
one_of k t a = record { kind = k; term = a; place = t.start }

module _ (k : SetKind) where
  abbrev First : Token → Type 0
  First t = Is (reserved (set_word k)) t

  abbrev Behind : Token → Language Token (List (SetTerm Term))
  Behind t ls u = SetTermsOf k ls (t ∷ u)

  to_some : (t : Token) → First t → (ls : List (SetTerm Term)) × (u : Tokens) × Behind t ls u
  to_some t it = (_, _, set_terms_more it (is_example (the_reserved (set_quantifier k))) (some_term.2) set_terms_none)

  to_ends : (t : Token) (a : SetTerm Term) (u : Tokens) → First t → TermTo k t (a, None) u → Behind t (a ∷ []) u
  to_ends t _ _ it (term_to {q = q} {a = a} {u = u} iq l) = subst (λ (w : Tokens). SetTermsOf k (one_of k t a ∷ []) (t ∷ q ∷ w)) (append-nil u) (set_terms_more it iq l set_terms_none)

  to_more : (t : Token) (a : SetTerm Term) (f : Token) (u : Tokens) (ls : List (SetTerm Term)) (v : Tokens) → First t → TermTo k t (a, Some f) u → Behind f ls v → Behind t (a ∷ ls) (u ++ v)
  to_more t _ _ _ ls v it (term_to_word {q = q} {y = y} {a = a} {u = u} iq l iy) z = subst (λ (w : Tokens). SetTermsOf k (one_of k t a ∷ ls) (t ∷ q ∷ w)) (sym (append_assoc u (y ∷ []) v)) (set_terms_more it iq l z)

  to_right : (t : Token) (a : SetTerm Term) (f : Token) (u : Tokens) → First t → TermTo k t (a, Some f) u → First f
  to_right t _ _ _ it (term_to_word iq l iy) = iy

  to_solid : (t : Token) (a : SetTerm Term × Option Token) (u : Tokens) → TermTo k t a u → 1 ≤ length u
  to_solid t _ _ (term_to iq l) = omega arith
  to_solid t _ _ (term_to_word iq l iy) = omega arith

  term_then : (t q : Token) → Is (reserved (set_quantifier k)) q → (a : Term) (u : Tokens) → TermOf a u → (y : Option Token) (v : Tokens) → NextOf k y v → TermTo k t (one_of k t a, y) (q ∷ (u ++ v))
  term_then t q iq a u l _ _ next_none = subst (λ (w : Tokens). TermTo k t (one_of k t a, None) (q ∷ w)) (sym (append-nil u)) (term_to iq l)
  term_then t q iq a u l _ _ (next_is iy) = term_to_word iq l iy

  module _ (n m : ℕ) (up : n ≤ m) (b b' : Below) (x : Under n b b') where
    -- behind both words, where a word EXCEPT was read behind the term
    next_by : (t q : Token) → Is (reserved (set_quantifier k)) q → (a : Term) (w : Token) (u : Tokens) → TermOf a u → Longer TermOf u w → (c : Bool) → reserved (set_word k) w ≡ c
        → Exact n (λ y v. TermTo k t y (q ∷ ((u ++ (w ∷ [])) ++ v))) (elim c [ true ↦ pure (Some w) | false ↦ refuse ] >>= (λ y. pure (one_of k t a, y))) (elim c [ true ↦ pure (Some w) | false ↦ refuse ] >>= (λ y. pure (one_of k t a, y)))
    next_by t q iq a w u l g true h = done (subst (λ (z : Tokens). TermTo k t (one_of k t a, Some w) (q ∷ z)) (sym (append-nil (u ++ (w ∷ [])))) (term_to_word iq l (record { is = h })))
    next_by t q iq a w u l g false h = exact_refuse n _ (one_of k t g.0, None) g.1 (subst (λ (z : Tokens). TermTo k t (one_of k t g.0, None) (q ∷ z)) (sym (append_assoc u (w ∷ []) g.1)) (term_to iq g.2))

    then_exact : (t q : Token) → Is (reserved (set_quantifier k)) q → (a : Term × Option Token) (u : Tokens) → Excepted TermOf a u
        → Exact n (λ y v. TermTo k t y (q ∷ (u ++ v))) (set_next n b k a.1 >>= (λ y. pure (one_of k t a.0, y))) (set_next m b' k a.1 >>= (λ y. pure (one_of k t a.0, y)))
    then_exact t q iq _ _ (plainly {a = a} {u = u} l) = last (λ y. (one_of k t a, y)) (opt_also (the_reserved (set_word k)) (λ y iy. done (next_is iy)) (done next_none)) (term_then t q iq a u l)
    then_exact t q iq _ _ (excepted {a = a} {t = w} {u = u} l iw g) = next_by t q iq a w u l g (reserved (set_word k) w) refl

    set_term_exact : (t q : Token) → Is (reserved (set_quantifier k)) q → Exact n (λ y v. TermTo k t y (q ∷ v)) (set_term n b k t) (set_term m b' k t)
    unfolding set_term
    set_term_exact t q iq = bind (less (term_exact n m up b b' x)) (then_exact t q iq)

    set_item_exact : (t : Token) → Exact (suc n) (TermTo k t) (set_item n b k t) (set_item m b' k t)
    unfolding set_item
    set_item_exact t = tok (the_reserved (set_quantifier k)) (set_term_exact t)

    all_behind : (t : Token) (ls : List (SetTerm Term)) (v : Tokens) → Found (Behind t) [] ls v → SetTermsOf k ls (t ∷ v)
    all_behind t ls v (xs, z, f) = subst (λ (q : List (SetTerm Term)). SetTermsOf k q (t ∷ v)) (sym f) z

    set_terms_exact : (t q : Token) → First t → Is (reserved (set_quantifier k)) q → Exact n (λ ls v. SetTermsOf k ls (t ∷ q ∷ v)) (set_terms n b k t) (set_terms m b' k t)
    unfolding set_terms
    set_terms_exact t q it iq = bind (set_term_exact t q iq) (λ y u l. into (next_exact First (TermTo k) Behind (set_item n b k) (set_item m b' k) to_ends to_more to_right n m n
        (exact_following First (TermTo k) Behind (set_item n b k) (set_item m b' k) to_some to_ends to_more to_right to_solid n m n up (omega arith) (λ f ok. less (set_item_exact f))) [] t it y (q ∷ u) l) (λ ls v f. all_behind t ls (q ∷ (u ++ v)) f))

-- ---- the set operations of a body

abbrev pub SetsOf : List (SetTerm Term) → Tokens → Type 0
SetsOf ls u = (k : SetKind) × SetTermsOf k ls u

module _ (n m : ℕ) (up : n ≤ m) (b b' : Below) (x : Under n b b') where
  quantified_exact : (t q : Token) → Is (tells set_word_of) t → (c : Bool) → Is (reserved (set_quantifier (set_kind_by (told a_union set_word_of t) c))) q
      → Exact n (λ ls v. SetsOf ls (t ∷ q ∷ v)) (set_terms n b (set_kind_by (told a_union set_word_of t) c) t) (set_terms m b' (set_kind_by (told a_union set_word_of t) c) t)
  quantified_exact t q it c iq = into (set_terms_exact (set_kind_by (told a_union set_word_of t) c) n m up b b' x t q (word_is t c it) iq) (λ ls v z. (set_kind_by (told a_union set_word_of t) c, z))

  first_exact : (t : Token) → Is (tells set_word_of) t → Exact (suc n) (λ ls v. SetsOf ls (t ∷ v)) (set_first n b t) (set_first m b' t)
  unfolding set_first
  first_exact t it = opt (the_reserved r.All) (λ q iq. quantified_exact t q it false (subst (λ (w : Reserved). Is (reserved w) q) (all_is (told a_union set_word_of t)) iq))
      (tok (the_reserved r.Distinct) (λ q iq. quantified_exact t q it true (subst (λ (w : Reserved). Is (reserved w) q) (distinct_is (told a_union set_word_of t)) iq)))

  body_behind : (a : Term) (t : Token) (u : Tokens) → TermOf a u → (ls : List (SetTerm Term)) (v : Tokens) → SetsOf ls (t ∷ v) → BodyOf (record { first = a; rest = ls; place = start_of (u ++ (t ∷ [])) }) ((u ++ (t ∷ [])) ++ v)
  body_behind a t u l ls v z =
      subst (λ (j : ℕ). BodyOf (record { first = a; rest = ls; place = j }) ((u ++ (t ∷ [])) ++ v)) (sym (start_front u (t ∷ []) (solid_term a u l)))
      (subst (BodyOf (record { first = a; rest = ls; place = start_of u })) (sym (append_assoc u (t ∷ []) v)) (body_is l z.1))

  -- behind the first term, and the word EXCEPT if it was read
  pub sets_exact : (y : Term × Option Token) (u : Tokens) → Excepted TermOf y u → Exact (suc n) (λ ls v. BodyOf (record { first = y.0; rest = ls; place = start_of u }) (u ++ v)) (sets_from n b y.1) (sets_from m b' y.1)
  sets_exact _ _ (plainly {a = a} {u = u} l) = into {L = SetsOf} (opt a_set_word (λ t it. less (first_exact t it)) (done (set.UnionAll, set_terms_none))) (λ ls v z. body_is l z.1)
  sets_exact _ _ (excepted {a = a} {t = t} {u = u} l it g) = into (first_exact t (except_is t it)) (body_behind a t u l)
