-- Set operations are read, behind a term with which the word EXCEPT may have been read.
use Rattle.std.proofs.Common.{◌≡◌, inl, inr, ℕ, zero, suc, ◌<◌, ◌≤◌, Bool, true, false, List, [], ◌∷◌, ◌++◌, length, Option, Some, None, refl, sym, ◌∙◌, ap, arith}
use Rattle.std.proofs.lemmas.List.{append_assoc, append-nil, length-append}
use Rattle.fronts.specs.Readers.{taken, ◌>>=◌, and_then, pure, refuse, comes, token}
use Rattle.sql_types.specs.declared.kinds.SetKind.{SetKind}
use Rattle.sql_types.specs.declared.kinds.SetKind.TheVariants as set
use Rattle.sql_ast.specs.declared.query.SetTerm.{SetTerm}
use Rattle.sql_ast.specs.declared.query.Term.{Term}
use Rattle.sql_names.specs.declared.words.Reserved.TheVariants as r
use Rattle.sql_ast.specs.declared.words.Sign.TheVariants as s
use Rattle.sql_ast.specs.declared.token.Token.{Token}
use Rattle.sql_ast.specs.declared.token.Lexeme.{Lexeme}
use Rattle.sql_ast.specs.declared.token.Lexeme.TheVariants as l
use Rattle.sql_ast.specs.Marks.{Tokens, Is, reserved, sign, same_reserved, reserved_lexeme, sign_lexeme}
use Rattle.sql_ast.specs.Trees.{set_word, set_quantifier}
use Rattle.sql_ast.specs.Grammar.{TermOf, SetTermsOf, set_terms_none, set_terms_more}
use Rattle.sql_grammar.specs.Ways.{Parser, following}
use Rattle.sql_grammar.specs.Classes.{a_union, set_lexeme, set_word_of, set_kind_by}
use Rattle.sql_grammar.specs.Exprs.{tells, told, Below}
use Rattle.sql_grammar.specs.Queries.{term_or_except, set_next, set_term, set_item, set_terms, set_first, sets_from}
use Rattle.sql_grammar.proofs.Follows.{Over, level}
use Rattle.sql_grammar.proofs.CompleteSteps.{tok, then_on, else_on, done, weak, over_r, over_not_r, r_test}
use Rattle.sql_grammar.proofs.CompleteParts.{Reading}
use Rattle.sql_grammar.proofs.CompleteHeld.{set_word_level}
use Rattle.sql_grammar.proofs.CompleteItems.{NoEdit, Kept, kept_none}
use Rattle.sql_grammar.proofs.CompleteSelects.{term_by}

-- ---- the words

-- no word of a set operation comes next
no_set_by : (x : Lexeme) → 20 < level x → (elim (set_lexeme x) [ None ↦ false | Some a ↦ true ]) ≡ false
no_set_by (l.Reserved r.Union) h = absurd (omega arith)
no_set_by (l.Reserved r.Intersect) h = absurd (omega arith)
no_set_by (l.Reserved r.Except) h = absurd (omega arith)
no_set_by (l.Reserved _) h = refl
no_set_by _ h = refl

no_set : (ts : Tokens) → Over 20 ts → comes (tells set_word_of) ts ≡ false
no_set [] h = refl
no_set (t ∷ ts) h = no_set_by t.lexeme h.over

set_word_is : (k : SetKind) (t : Token) → Is (reserved (set_word k)) t → tells set_word_of t ≡ true
set_word_is set.UnionAll t i = r_test r.Union (λ x. elim (set_lexeme x) [ None ↦ false | Some a ↦ true ]) i refl
set_word_is set.UnionDistinct t i = r_test r.Union (λ x. elim (set_lexeme x) [ None ↦ false | Some a ↦ true ]) i refl
set_word_is set.IntersectAll t i = r_test r.Intersect (λ x. elim (set_lexeme x) [ None ↦ false | Some a ↦ true ]) i refl
set_word_is set.IntersectDistinct t i = r_test r.Intersect (λ x. elim (set_lexeme x) [ None ↦ false | Some a ↦ true ]) i refl
set_word_is set.ExceptAll t i = r_test r.Except (λ x. elim (set_lexeme x) [ None ↦ false | Some a ↦ true ]) i refl
set_word_is set.ExceptDistinct t i = r_test r.Except (λ x. elim (set_lexeme x) [ None ↦ false | Some a ↦ true ]) i refl

-- whether the second word is DISTINCT
distinct_kind : SetKind → Bool
distinct_kind set.UnionAll = false
distinct_kind set.UnionDistinct = true
distinct_kind set.IntersectAll = false
distinct_kind set.IntersectDistinct = true
distinct_kind set.ExceptAll = false
distinct_kind set.ExceptDistinct = true

kind_is : (k : SetKind) (t : Token) → Is (reserved (set_word k)) t → set_kind_by (told a_union set_word_of t) (distinct_kind k) ≡ k
unfolding distinct_kind
kind_is set.UnionAll t i = r_test r.Union (λ x. set_kind_by (elim (set_lexeme x) [ None ↦ a_union | Some a ↦ a ]) false) i refl
kind_is set.UnionDistinct t i = r_test r.Union (λ x. set_kind_by (elim (set_lexeme x) [ None ↦ a_union | Some a ↦ a ]) true) i refl
kind_is set.IntersectAll t i = r_test r.Intersect (λ x. set_kind_by (elim (set_lexeme x) [ None ↦ a_union | Some a ↦ a ]) false) i refl
kind_is set.IntersectDistinct t i = r_test r.Intersect (λ x. set_kind_by (elim (set_lexeme x) [ None ↦ a_union | Some a ↦ a ]) true) i refl
kind_is set.ExceptAll t i = r_test r.Except (λ x. set_kind_by (elim (set_lexeme x) [ None ↦ a_union | Some a ↦ a ]) false) i refl
kind_is set.ExceptDistinct t i = r_test r.Except (λ x. set_kind_by (elim (set_lexeme x) [ None ↦ a_union | Some a ↦ a ]) true) i refl

-- no bracket is behind the first word
quantifier_not_open : (k : SetKind) (t : Token) → Is (reserved (set_quantifier k)) t → sign s.OpenRound t ≡ false
quantifier_not_open k t i = r_test (set_quantifier k) (sign_lexeme s.OpenRound) i refl

-- behind a term: the words of the next set operation, or what ends them
pub sets_no_edit : (k : SetKind) (ms : List (SetTerm Term)) (v rest : Tokens) → SetTermsOf k ms v → Over 20 rest → NoEdit (v ++ rest)
sets_no_edit k _ _ rest set_terms_none f = record { no_edit = λ e left q i. absurd (let g : true ≡ false = sym i.is ∙ ap (comes (reserved r.Except)) (sym q) ∙ over_not_r f r.Except (omega arith) in cc) }
sets_no_edit k _ _ rest (set_terms_more {t = t} {x = x} {u = u} {v = v} i j l z) f = record {
  no_edit = λ e left q g. let is : (x ∷ (u ++ v)) ++ rest ≡ left = cc in ap (comes (sign s.OpenRound)) (sym is) ∙ quantifier_not_open k x j;
}

module _ (n : ℕ) (b : Below) (x : Reading n b) where
  abbrev set_of : SetKind → Term → Token → SetTerm Term
  set_of k a t = record { kind = k; term = a; place = t.start }

  abbrev kept_next : Token → Bool → Parser (Option Token)
  kept_next t c = elim c [ true ↦ pure (Some t) | false ↦ refuse ]

  abbrev with_next : SetKind → Token → Term × Option Token → Parser (SetTerm Term × Option Token)
  with_next k t a = set_next n b k a.1 >>= (λ y. λ ts. taken (set_of k a.0 t, y) ts)

  -- the last term
  last_term : (k : SetKind) (t : Token) (a : Term) (u : Tokens) → TermOf a u → (rest : Tokens) → Over 20 rest → length (u ++ rest) < suc n → set_term n b k t (u ++ rest) ≡ taken (set_of k a t, None) rest
  unfolding set_term
  last_term k t a u l rest f lt =
      let g = term_by n b x a u l rest (weak (omega arith) f) (sets_no_edit k [] [] rest set_terms_none f) lt in
      ap (λ o. and_then o (with_next k t)) (kept_none (term_or_except n b (u ++ rest)) a rest (over_not_r f r.Except (omega arith)) g)
      ∙ ap (λ o. and_then o (λ y. λ ts. taken (set_of k a t, y) ts)) (else_on {N = Unit {0}} (over_not_r f (set_word k) (let e = set_word_level k in omega arith)) _ _ done tt)

  -- a term before another set operation
  next_term : (k : SetKind) (t : Token) (a : Term) (u : Tokens) → TermOf a u → (w q : Token) → Is (reserved (set_word k)) w → Is (reserved (set_quantifier k)) q → (rest : Tokens) → length (u ++ (w ∷ q ∷ rest)) < suc n
      → set_term n b k t (u ++ (w ∷ q ∷ rest)) ≡ taken (set_of k a t, Some w) (q ∷ rest)
  unfolding set_term
  next_term k t a u l w q iw iq rest lt = by (term_by n b x a u l (w ∷ q ∷ rest) (over_r (set_word k) iw (let e = set_word_level k in omega arith)) no_edit lt)
    where
      no_edit : NoEdit (w ∷ q ∷ rest)
      no_edit = record { no_edit = λ e left h g. let is : q ∷ rest ≡ left = cc in ap (comes (sign s.OpenRound)) (sym is) ∙ quantifier_not_open k q iq }

      by : Kept (term_or_except n b (u ++ (w ∷ q ∷ rest))) a (w ∷ q ∷ rest) → set_term n b k t (u ++ (w ∷ q ∷ rest)) ≡ taken (set_of k a t, Some w) (q ∷ rest)
      by (inl h) = ap (λ o. and_then o (with_next k t)) h
          ∙ ap (λ o. and_then o (λ y. λ ts. taken (set_of k a t, y) ts)) (then_on {N = length (w ∷ q ∷ rest) < suc (length (w ∷ q ∷ rest))} iw.is _ _ (tok iw _ done) (omega arith))
      by (inr h) =
          let same : w ≡ h.word = let e = h.is in cc in
          let left : q ∷ rest ≡ h.left = let e = h.is in cc in
          ap (λ o. and_then o (with_next k t)) h.reads
          ∙ ap (λ c. and_then (kept_next h.word c h.left) (λ y. λ ts. taken (set_of k a t, y) ts)) (ap (reserved (set_word k)) (sym same) ∙ iw.is)
          ∙ ap (λ c. taken (set_of k a t, Some c) h.left) (sym same) ∙ ap (taken (set_of k a t, Some w)) (sym left)

  -- all set operations, behind the first word of one
  all_sets : (k : SetKind) (t : Token) (a : Term) (u : Tokens) → TermOf a u → (ms : List (SetTerm Term)) (v : Tokens) → SetTermsOf k ms v → (q : Token) → Is (reserved (set_quantifier k)) q → (rest : Tokens) → Over 20 rest
      → (m : ℕ) (found : List (SetTerm Term)) → length ((q ∷ (u ++ v)) ++ rest) ≤ m → length ((q ∷ (u ++ v)) ++ rest) < suc n
      → following (set_item n b k) m found (Some t) ((q ∷ (u ++ v)) ++ rest) ≡ taken (found ++ set_of k a t ∷ ms) rest
  unfolding following set_item
  all_sets k t a u l ms v z q iq rest f zero found le lt = absurd (omega arith)
  all_sets k t a u l _ _ set_terms_none q iq rest f (suc m) found le lt =
      let same : length ((q ∷ (u ++ [])) ++ rest) ≡ length (q ∷ (u ++ rest)) = ap (λ (y : Tokens). length ((q ∷ y) ++ rest)) (append-nil u) in
      ap (λ (y : Tokens). and_then ((token (reserved (set_quantifier k)) >>= (λ _. set_term n b k t)) ((q ∷ y) ++ rest)) (λ x. following (set_item n b k) m (found ++ x.0 ∷ []) x.1)) (append-nil u)
      ∙ ap (λ o. and_then o (λ x. following (set_item n b k) m (found ++ x.0 ∷ []) x.1)) (tok {n = n} iq _ (λ short. last_term k t a u l rest f (omega arith)) (omega arith))
  all_sets k t a u l _ _ (set_terms_more {t = w} {x = y} {a = c} {ms = ms} {u = p} {v = v} iw iy lp z) q iq rest f (suc m) found le lt =
      let whole : (u ++ (w ∷ y ∷ (p ++ v))) ++ rest ≡ u ++ (w ∷ y ∷ ((p ++ v) ++ rest)) = append_assoc u (w ∷ y ∷ (p ++ v)) rest in
      let same : length ((u ++ (w ∷ y ∷ (p ++ v))) ++ rest) ≡ length (u ++ (w ∷ y ∷ ((p ++ v) ++ rest))) = ap length whole in
      let more = length-append u (w ∷ y ∷ ((p ++ v) ++ rest)) in
      ap (λ (g : Tokens). and_then ((token (reserved (set_quantifier k)) >>= (λ _. set_term n b k t)) (q ∷ g)) (λ x. following (set_item n b k) m (found ++ x.0 ∷ []) x.1)) whole
      ∙ ap (λ o. and_then o (λ x. following (set_item n b k) m (found ++ x.0 ∷ []) x.1)) (tok {n = n} iq _ (λ short. next_term k t a u l w y iw iy ((p ++ v) ++ rest) (omega arith)) (omega arith))
      ∙ all_sets k w c p lp ms v z y iy rest f m (found ++ set_of k a t ∷ []) (omega arith) (omega arith)
      ∙ ap (λ (g : List (SetTerm Term)). taken g rest) (append_assoc found (set_of k a t ∷ []) (set_of k c w ∷ ms))

  -- behind both words of the first
  first_sets : (k : SetKind) (t : Token) (a : Term) (u : Tokens) → TermOf a u → (ms : List (SetTerm Term)) (v : Tokens) → SetTermsOf k ms v → (rest : Tokens) → Over 20 rest → length ((u ++ v) ++ rest) < suc n
      → set_terms n b k t ((u ++ v) ++ rest) ≡ taken (set_of k a t ∷ ms) rest
  unfolding set_terms following
  first_sets k t a u l _ _ set_terms_none rest f lt =
      ap (λ (y : Tokens). and_then (set_term n b k t (y ++ rest)) (λ x. following (set_item n b k) n (x.0 ∷ []) x.1)) (append-nil u)
      ∙ ap (λ o. and_then o (λ x. following (set_item n b k) n (x.0 ∷ []) x.1)) (last_term k t a u l rest f (let same : length ((u ++ []) ++ rest) ≡ length (u ++ rest) = ap (λ (y : Tokens). length (y ++ rest)) (append-nil u) in omega arith))
      ∙ stop n (set_of k a t ∷ []) rest
    where
      stop : (m : ℕ) (found : List (SetTerm Term)) (ts : Tokens) → following (set_item n b k) m found None ts ≡ taken found ts
      stop zero found ts = refl
      stop (suc m) found ts = refl
  first_sets k t a u l _ _ (set_terms_more {t = w} {x = y} {a = c} {ms = ms} {u = p} {v = v} iw iy lp z) rest f lt =
      let whole : (u ++ (w ∷ y ∷ (p ++ v))) ++ rest ≡ u ++ (w ∷ y ∷ ((p ++ v) ++ rest)) = append_assoc u (w ∷ y ∷ (p ++ v)) rest in
      let same : length ((u ++ (w ∷ y ∷ (p ++ v))) ++ rest) ≡ length (u ++ (w ∷ y ∷ ((p ++ v) ++ rest))) = ap length whole in
      let more = length-append u (w ∷ y ∷ ((p ++ v) ++ rest)) in
      ap (λ (g : Tokens). and_then (set_term n b k t g) (λ x. following (set_item n b k) n (x.0 ∷ []) x.1)) whole
      ∙ ap (λ o. and_then o (λ x. following (set_item n b k) n (x.0 ∷ []) x.1)) (next_term k t a u l w y iw iy ((p ++ v) ++ rest) (omega arith))
      ∙ all_sets k w c p lp ms v z y iy rest f n (set_of k a t ∷ []) (omega arith) (omega arith)

  -- behind the first word of the first
  first_by : (k : SetKind) (t q : Token) → Is (reserved (set_quantifier k)) q → (w : Tokens) → set_first n b t (q ∷ w) ≡ set_terms n b (set_kind_by (told a_union set_word_of t) (distinct_kind k)) t w
  unfolding set_first distinct_kind same_reserved
  first_by set.UnionAll t q i w = then_on {N = length (q ∷ w) < suc (length (q ∷ w))} i.is _ _ (tok i _ done) (omega arith)
  first_by set.IntersectAll t q i w = then_on {N = length (q ∷ w) < suc (length (q ∷ w))} i.is _ _ (tok i _ done) (omega arith)
  first_by set.ExceptAll t q i w = then_on {N = length (q ∷ w) < suc (length (q ∷ w))} i.is _ _ (tok i _ done) (omega arith)
  first_by set.UnionDistinct t q i w = else_on {N = length (q ∷ w) < suc (length (q ∷ w))} (r_test r.Distinct (reserved_lexeme r.All) i refl) _ _ (tok i _ done) (omega arith)
  first_by set.IntersectDistinct t q i w = else_on {N = length (q ∷ w) < suc (length (q ∷ w))} (r_test r.Distinct (reserved_lexeme r.All) i refl) _ _ (tok i _ done) (omega arith)
  first_by set.ExceptDistinct t q i w = else_on {N = length (q ∷ w) < suc (length (q ∷ w))} (r_test r.Distinct (reserved_lexeme r.All) i refl) _ _ (tok i _ done) (omega arith)

  first_read : (k : SetKind) (t q : Token) → Is (reserved (set_word k)) t → Is (reserved (set_quantifier k)) q → (a : Term) (u : Tokens) → TermOf a u → (ms : List (SetTerm Term)) (v : Tokens) → SetTermsOf k ms v → (rest : Tokens) → Over 20 rest
      → length ((u ++ v) ++ rest) < suc n → set_first n b t ((q ∷ (u ++ v)) ++ rest) ≡ taken (set_of k a t ∷ ms) rest
  first_read k t q it iq a u l ms v z rest f lt = first_by k t q iq ((u ++ v) ++ rest) ∙ ap (λ (c : SetKind). set_terms n b c t ((u ++ v) ++ rest)) (kind_is k t it) ∙ first_sets k t a u l ms v z rest f lt

  -- where no word was read
  pub sets_none : (k : SetKind) (ms : List (SetTerm Term)) (v : Tokens) → SetTermsOf k ms v → (rest : Tokens) → Over 20 rest → length (v ++ rest) < suc n → sets_from n b None (v ++ rest) ≡ taken ms rest
  sets_none k _ _ set_terms_none rest f lt = else_on (no_set rest f) _ _ done lt
  sets_none k _ _ (set_terms_more {t = t} {x = q} {a = a} {ms = ms} {u = u} {v = v} i j l z) rest f lt =
      then_on {N = length (t ∷ q ∷ ((u ++ v) ++ rest)) < suc n} (set_word_is k t i) _ _ (tok (record { is = set_word_is k t i }) _ (λ short. first_read k t q i j a u l ms v z rest f (omega arith))) lt

  -- where the first word was read
  pub sets_some : (k : SetKind) (ms : List (SetTerm Term)) (v : Tokens) → SetTermsOf k ms v → (rest : Tokens) → Over 20 rest → length (v ++ rest) < suc n → (w : Token) (left : Tokens) → v ++ rest ≡ w ∷ left → Is (reserved r.Except) w
      → sets_from n b (Some w) left ≡ taken ms rest
  sets_some k _ _ set_terms_none rest f lt w left e i = absurd (let g : true ≡ false = sym i.is ∙ ap (comes (reserved r.Except)) (sym e) ∙ over_not_r f r.Except (omega arith) in cc)
  sets_some k _ _ (set_terms_more {t = t} {x = q} {a = a} {ms = ms} {u = u} {v = v} i j l z) rest f lt w left e g =
      let same : t ≡ w = cc in
      let is : (q ∷ (u ++ v)) ++ rest ≡ left = cc in
      ap (λ (y : Token). set_first n b y left) (sym same) ∙ ap (set_first n b t) (sym is) ∙ first_read k t q i j a u l ms v z rest f (omega arith)
