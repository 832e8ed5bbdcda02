-- Comparisons read each word, if the operands and what parentheses hold are read.
use Rattle.std.proofs.Common.{◌≡◌, ◌⊎◌, inl, inr, ℕ, suc, ◌<◌, ◌≤◌, ◌==◌, ◌&&◌, Bool, true, false, [], ◌∷◌, ◌++◌, length, Some, None, refl, sym, ap, subst, arith}
use Rattle.std.proofs.lemmas.List.{append_assoc}
use Rattle.fronts.specs.Readers.{Outcome, taken, ◌>>=◌, and_then, comes, next}
use Rattle.sql_ast.specs.declared.expr.Comparison.{Comparison}
use Rattle.sql_ast.specs.declared.expr.Comparison.TheVariants as compare
use Rattle.sql_ast.specs.declared.expr.Expr.{Expr}
use Rattle.sql_ast.specs.declared.expr.Expr.TheVariants as e
use Rattle.sql_ast.specs.declared.expr.IsTest.{IsTest}
use Rattle.sql_ast.specs.declared.expr.IsTest.TheVariants as test
use Rattle.sql_ast.specs.declared.expr.Quantifier.{Quantifier}
use Rattle.sql_ast.specs.declared.expr.Quantifier.TheVariants as quantifier
use Rattle.sql_names.specs.declared.words.Reserved.TheVariants as r
use Rattle.sql_ast.specs.declared.words.Sign.TheVariants as s
use Rattle.sql_ast.specs.declared.token.Token.{Token}
use Rattle.sql_ast.specs.declared.token.Lexeme.{Lexeme}
use Rattle.sql_ast.specs.declared.token.Lexeme.TheVariants as l
use Rattle.sql_ast.specs.Marks.{Tokens, Is, Says, reserved, same_reserved, same_sign, reserved_lexeme, sign_lexeme, closes_shift, start_of}
use Rattle.sql_ast.specs.Trees.{comparison_of, comparison_lexeme, quantifier_of, quantifier_lexeme, test_of, test_lexeme}
use Rattle.sql_ast.specs.Parts.{NegatableOf, not_negated, is_negated, IsNotOf, is_plain, is_not}
use Rattle.sql_ast.specs.Grammar.{ExprOf, BorOf, CompOf, comp_bor, comp_compare, comp_like, comp_like_list, comp_like_unnest, comp_between, comp_in_list, comp_in_query, comp_in_unnest, comp_is, comp_distinct}
use Rattle.sql_grammar.specs.Classes.{class_of, ComparisonStart, by_sign, by_like, by_between, by_in, by_is, by_not, no_comparison, comparison_class}
use Rattle.sql_grammar.specs.Exprs.{tells, Below, bor_pending, bor, enclosed, unnested, sign_after, quantified, like_bor, like_after, between_after, in_after, is_test, is_after, negated_by, not_after, compared_by, compared, comparison}
use Rattle.sql_grammar.proofs.Marks.{told_is, tells_is, AfterOf, after_of}
use Rattle.sql_grammar.proofs.Calls.{Bracketed, bracketed_is}
use Rattle.sql_grammar.proofs.Basics.{HeldOf, holds_query, holds_exprs}
use Rattle.sql_grammar.proofs.Solid.{solid_bor}
use Rattle.sql_grammar.proofs.Follows.{Over, Starts, level, rank}
use Rattle.sql_grammar.proofs.CompleteSteps.{Read, Free, Not, less, tok, also, part, last, then_on, else_on, peeked, done, weak, over_r, r_test, s_test, starts_not_s, after_read}
use Rattle.sql_grammar.proofs.CompleteStarts.{bor_starts}
use Rattle.sql_grammar.proofs.CompleteRepeats.{begun, begun_only}
use Rattle.sql_grammar.proofs.CompleteChains.{Pends, plain_of, ends_in}
use Rattle.sql_grammar.proofs.CompleteParts.{Reading, list_read, bracketed_read}

-- ---- what tokens say

no_comparison_by : (x : Lexeme) → 8 < level x → comparison_class x ≡ no_comparison
no_comparison_by (l.Sign s.Equal) h = absurd (omega arith)
no_comparison_by (l.Sign s.BangEqual) h = absurd (omega arith)
no_comparison_by (l.Sign s.LessGreater) h = absurd (omega arith)
no_comparison_by (l.Sign s.Less) h = absurd (omega arith)
no_comparison_by (l.Sign s.LessEqual) h = absurd (omega arith)
no_comparison_by (l.Sign s.Greater) h = absurd (omega arith)
no_comparison_by (l.Sign s.GreaterEqual) h = absurd (omega arith)
no_comparison_by (l.Sign _) h = refl
no_comparison_by (l.Reserved r.Like) h = absurd (omega arith)
no_comparison_by (l.Reserved r.Between) h = absurd (omega arith)
no_comparison_by (l.Reserved r.In) h = absurd (omega arith)
no_comparison_by (l.Reserved r.Is) h = absurd (omega arith)
no_comparison_by (l.Reserved r.Not) h = absurd (omega arith)
no_comparison_by (l.Reserved _) h = refl
no_comparison_by _ h = refl

pub no_comparison_next : (ts : Tokens) → Over 8 ts → class_of no_comparison comparison_class (next ts) ≡ no_comparison
no_comparison_next [] h = refl
no_comparison_next (t ∷ ts) h = no_comparison_by t.lexeme h.over

-- a comparison is `>`, which may be read before it is known to be one, or another
compare_by : (c : Comparison) (x : Lexeme) → comparison_lexeme x ≡ Some c → ((sign_lexeme s.Greater x ≡ true) × (c ≡ compare.Greater)) ⊎ ((comparison_class x ≡ by_sign) × (level x ≡ 8))
unfolding same_sign
compare_by c (l.Sign s.Greater) h = inl (refl, cc)
compare_by c (l.Sign s.Equal) h = inr (refl, refl)
compare_by c (l.Sign s.BangEqual) h = inr (refl, refl)
compare_by c (l.Sign s.LessGreater) h = inr (refl, refl)
compare_by c (l.Sign s.Less) h = inr (refl, refl)
compare_by c (l.Sign s.LessEqual) h = inr (refl, refl)
compare_by c (l.Sign s.GreaterEqual) h = inr (refl, refl)
compare_by c (l.Sign _) h = absurd cc
compare_by c _ h = absurd cc

not_closing : (t : Token) (ts : Tokens) → Starts 2 ts → Not (closes_shift t) ts
not_closing t [] h = record { is = refl }
not_closing t (x ∷ ts) h = record { is = ap (λ c. c && (t.end == x.start)) (starts_not_s h s.Greater (omega arith)) }

no_quantifier_by : (x : Lexeme) → rank x ≤ 2 → (elim (quantifier_lexeme x) [ None ↦ false | Some a ↦ true ]) ≡ false
no_quantifier_by (l.Reserved r.Any) h = absurd (omega arith)
no_quantifier_by (l.Reserved r.Some) h = absurd (omega arith)
no_quantifier_by (l.Reserved r.All) h = absurd (omega arith)
no_quantifier_by (l.Reserved _) h = refl
no_quantifier_by _ h = refl

no_quantifier : (ts : Tokens) → Starts 2 ts → comes (tells quantifier_of) ts ≡ false
no_quantifier [] h = refl
no_quantifier (t ∷ ts) h = no_quantifier_by t.lexeme h.starts

test_not : (i : IsTest) (x : Lexeme) → test_lexeme x ≡ Some i → (reserved_lexeme r.Not x ≡ false) × (reserved_lexeme r.Distinct x ≡ false)
unfolding same_reserved
test_not i (l.Reserved r.Null) h = (refl, refl)
test_not i (l.Reserved r.True) h = (refl, refl)
test_not i (l.Reserved r.False) h = (refl, refl)
test_not i (l.Reserved _) h = absurd cc
test_not i _ h = absurd cc

module _ (n : ℕ) (b : Below) (x : Reading n b) (bp : Pends (suc n) 7 BorOf (bor_pending n b)) (bo : Read (suc n) (Over 7) BorOf (bor n b)) (held : Read n Free HeldOf (enclosed n b)) where
  unnested_read : Read (suc n) Free (AfterOf (reserved r.Unnest) (Bracketed ExprOf)) (unnested n b)
  unfolding unnested
  unnested_read = after_read (less (bracketed_read n b x))

  -- behind an operand, by what the next token begins
  cmp : {o : Outcome Token Expr} (a : Expr) (u : Tokens) → BorOf a u → (w rest : Tokens) → Over 7 (w ++ rest) → (k : ComparisonStart) → class_of no_comparison comparison_class (next (w ++ rest)) ≡ k
      → (length (w ++ rest) < suc n → compared_by n b (start_of u) a k (w ++ rest) ≡ o) → length ((u ++ w) ++ rest) < suc n → comparison n b ((u ++ w) ++ rest) ≡ o
  unfolding comparison
  cmp a u l w rest f k q h = begun (λ p. bor_pending n b >>= compared n b p) u w rest (solid_bor a u l) (part bp.plain (plain_of l) w rest _ f (peeked (class_of no_comparison comparison_class) (compared_by n b (start_of u) a) q h))

  compare_read : (a c : Expr) (y : Comparison) (t : Token) (u v : Tokens) → BorOf a u → Says comparison_of t y → BorOf c v
      → ((sign_lexeme s.Greater t.lexeme ≡ true) × (y ≡ compare.Greater)) ⊎ ((comparison_class t.lexeme ≡ by_sign) × (level t.lexeme ≡ 8))
      → (rest : Tokens) → Over 8 rest → length ((u ++ (t ∷ v)) ++ rest) < suc n → comparison n b ((u ++ (t ∷ v)) ++ rest) ≡ taken (e.Compare a y t.start c (start_of u)) rest
  unfolding comparison sign_after
  compare_read a c y t u v l i m (inl g) rest f = begun (λ p. bor_pending n b >>= compared n b p) u (t ∷ v) rest (solid_bor a u l)
      (subst (λ (w : Tokens). length (w ++ rest) < suc n → and_then (bor_pending n b (w ++ rest)) (compared n b (start_of u)) ≡ taken (e.Compare a y t.start c (start_of u)) rest) (append_assoc u (t ∷ []) v)
      (part (bp.greater t (record { is = g.0 })) (ends_in l) v rest _ (not_closing t (v ++ rest) (bor_starts c v rest m)) (last bo m _ (weak (omega arith) f) (λ _. ap (λ (z : Comparison). taken (e.Compare a z t.start c (start_of u)) rest) (sym g.1)))))
  compare_read a c y t u v l i m (inr g) rest f = cmp a u l (t ∷ v) rest (record { over = let h = g.1 in omega arith }) by_sign g.0
      (tok (record { is = tells_is compare.Equal comparison_of t y i }) _ (last (less bo) m _ (weak (omega arith) f) (λ _. ap (λ (z : Comparison). taken (e.Compare a z t.start c (start_of u)) rest) (told_is compare.Equal comparison_of t y i))))

  like_read : (a c : Expr) (k : Bool) (p : ℕ) (u y v : Tokens) → BorOf a u → NegatableOf r.Like k p y → BorOf c v → (rest : Tokens) → Over 8 rest
      → length ((u ++ (y ++ v)) ++ rest) < suc n → comparison n b ((u ++ (y ++ v)) ++ rest) ≡ taken (e.Like a k p c (start_of u)) rest
  unfolding like_after like_bor not_after
  like_read a c _ _ u _ v l (not_negated {t = t} i) m rest f = cmp a u l (t ∷ v) rest (over_r r.Like i (omega arith)) by_like (r_test r.Like comparison_class i refl)
      (tok i _ (else_on (no_quantifier (v ++ rest) (bor_starts c v rest m)) _ _ (last (less bo) m _ (weak (omega arith) f) done)))
  like_read a c _ _ u _ v l (is_negated {n = k} {t = t} i j) m rest f = cmp a u l (k ∷ t ∷ v) rest (over_r r.Not i (omega arith)) by_not (r_test r.Not comparison_class i refl)
      (tok i _ (peeked (class_of no_comparison comparison_class) (negated_by n b (start_of u) a k.start) (r_test r.Like comparison_class j refl) (also j _ (last (less bo) m _ (weak (omega arith) f) done))))

  between_read : (a c d : Expr) (k : Bool) (p : ℕ) (t : Token) (u y v z : Tokens) → BorOf a u → NegatableOf r.Between k p y → BorOf c v → Is (reserved r.And) t → BorOf d z → (rest : Tokens) → Over 8 rest
      → length ((u ++ (y ++ (v ++ (t ∷ z)))) ++ rest) < suc n → comparison n b ((u ++ (y ++ (v ++ (t ∷ z)))) ++ rest) ≡ taken (e.Between a k p c d (start_of u)) rest
  unfolding between_after not_after
  between_read a c d _ _ t u _ v z l (not_negated {t = g} i) m j h rest f = cmp a u l (g ∷ (v ++ (t ∷ z))) rest (over_r r.Between i (omega arith)) by_between (r_test r.Between comparison_class i refl)
      (tok i _ (part (less bo) m (t ∷ z) rest _ (over_r r.And j (omega arith)) (also j _ (last (less bo) h _ (weak (omega arith) f) done))))
  between_read a c d _ _ t u _ v z l (is_negated {n = k} {t = g} i q) m j h rest f = cmp a u l (k ∷ g ∷ (v ++ (t ∷ z))) rest (over_r r.Not i (omega arith)) by_not (r_test r.Not comparison_class i refl)
      (tok i _ (peeked (class_of no_comparison comparison_class) (negated_by n b (start_of u) a k.start) (r_test r.Between comparison_class q refl)
      (also q _ (part (less bo) m (t ∷ z) rest _ (over_r r.And j (omega arith)) (also j _ (last (less bo) h _ (weak (omega arith) f) done))))))

  -- what IN is followed by
  in_read : {o : Outcome Token Expr} (a : Expr) (k : Bool) (p : ℕ) (u y w rest : Tokens) → BorOf a u → NegatableOf r.In k p y → (length (w ++ rest) < n → in_after n b (start_of u) a k p (w ++ rest) ≡ o)
      → length ((u ++ (y ++ w)) ++ rest) < suc n → comparison n b ((u ++ (y ++ w)) ++ rest) ≡ o
  unfolding not_after
  in_read a _ _ u _ w rest l (not_negated {t = t} i) h = cmp a u l (t ∷ w) rest (over_r r.In i (omega arith)) by_in (r_test r.In comparison_class i refl) (tok i _ h)
  in_read a _ _ u _ w rest l (is_negated {n = k} {t = t} i j) h = cmp a u l (k ∷ t ∷ w) rest (over_r r.Not i (omega arith)) by_not (r_test r.Not comparison_class i refl)
      (tok i _ (peeked (class_of no_comparison comparison_class) (negated_by n b (start_of u) a k.start) (r_test r.In comparison_class j refl) (also j _ h)))

  -- what IS [NOT] is followed by
  is_read : {o : Outcome Token Expr} (a : Expr) (k : Bool) (p : ℕ) (u y w rest : Tokens) → BorOf a u → IsNotOf k p y → comes (reserved r.Not) (w ++ rest) ≡ false
      → (length (w ++ rest) < n → is_test n b (start_of u) a k p (w ++ rest) ≡ o) → length ((u ++ (y ++ w)) ++ rest) < suc n → comparison n b ((u ++ (y ++ w)) ++ rest) ≡ o
  unfolding is_after
  is_read a _ _ u _ w rest l (is_plain {t = t} i) g h = cmp a u l (t ∷ w) rest (over_r r.Is i (omega arith)) by_is (r_test r.Is comparison_class i refl) (tok i _ (else_on g _ _ h))
  is_read a _ _ u _ w rest l (is_not {t = t} {n = k} i j) g h = cmp a u l (t ∷ k ∷ w) rest (over_r r.Is i (omega arith)) by_is (r_test r.Is comparison_class i refl) (tok i _ (then_on j.is _ _ (also j _ h)))

  comp_by : {a : Expr} {u : Tokens} → CompOf a u → (rest : Tokens) → Over 8 rest → length (u ++ rest) < suc n → comparison n b (u ++ rest) ≡ taken a rest
  unfolding comparison like_after quantified in_after is_test same_reserved
  comp_by (comp_bor {a = a} {u = u} l) rest f = begun_only (λ p. bor_pending n b >>= compared n b p) u rest (solid_bor a u l)
      (last bp.plain (plain_of l) _ (weak (omega arith) f) (peeked (class_of no_comparison comparison_class) (compared_by n b (start_of u) a) (no_comparison_next rest f) done))
  comp_by (comp_compare {a = a} {b = d} {c = c} {t = t} {u = u} {v = v} l i m) rest f = compare_read a d c t u v l i m (compare_by c t.lexeme i.is) rest f
  comp_by (comp_like {a = a} {b = d} {n = k} {p = p} {u = u} {x = y} {v = v} l i m) rest f = like_read a d k p u y v l i m rest f
  comp_by (comp_like_list {a = a} {q = q} {bs = bs} {t = t} {x = y} {o = o} {c = c} {u = u} {v = v} l i j io m ic) rest f =
      cmp a u l (t ∷ y ∷ o ∷ (v ++ (c ∷ []))) rest (over_r r.Like i (omega arith)) by_like (r_test r.Like comparison_class i refl)
      (tok i _ (then_on (tells_is quantifier.Any quantifier_of y q j) _ _ (also (record { is = tells_is quantifier.Any quantifier_of y q j }) _ (else_on (s_test s.OpenRound (reserved_lexeme r.Unnest) io refl) _ _
      (last (less (list_read n b x)) (bracketed_is io m ic) _ tt (λ _. ap (λ (z : Quantifier). taken (e.LikeList a z t.start bs (start_of u)) rest) (told_is quantifier.Any quantifier_of y q j)))))))
  comp_by (comp_like_unnest {a = a} {b = d} {q = q} {t = t} {x = y} {y = z} {o = o} {c = c} {u = u} {v = v} l i j h io m ic) rest f =
      cmp a u l (t ∷ y ∷ z ∷ o ∷ (v ++ (c ∷ []))) rest (over_r r.Like i (omega arith)) by_like (r_test r.Like comparison_class i refl)
      (tok i _ (then_on (tells_is quantifier.Any quantifier_of y q j) _ _ (also (record { is = tells_is quantifier.Any quantifier_of y q j }) _ (then_on h.is _ _
      (last (less unnested_read) (after_of h (bracketed_is io m ic)) _ tt (λ _. ap (λ (z : Quantifier). taken (e.LikeUnnest a z t.start d (start_of u)) rest) (told_is quantifier.Any quantifier_of y q j)))))))
  comp_by (comp_between {a = a} {b = c} {d = d} {n = k} {p = p} {t = t} {u = u} {x = y} {v = v} {y = z} l i m j h) rest f = between_read a c d k p t u y v z l i m j h rest f
  comp_by (comp_in_list {a = a} {bs = bs} {n = k} {p = p} {o = o} {c = c} {u = u} {x = y} {v = v} l i io m h ic) rest f =
      in_read a k p u y (o ∷ (v ++ (c ∷ []))) rest l i (else_on (s_test s.OpenRound (reserved_lexeme r.Unnest) io refl) _ _ (also io _ (last held (holds_exprs m h ic) _ tt done)))
  comp_by (comp_in_query {a = a} {q = q} {n = k} {p = p} {o = o} {c = c} {u = u} {x = y} {v = v} l i io m ic) rest f =
      in_read a k p u y (o ∷ (v ++ (c ∷ []))) rest l i (else_on (s_test s.OpenRound (reserved_lexeme r.Unnest) io refl) _ _ (also io _ (last held (holds_query m ic) _ tt done)))
  comp_by (comp_in_unnest {a = a} {b = d} {n = k} {p = p} {y = z} {o = o} {c = c} {u = u} {x = y} {v = v} l i h io m ic) rest f =
      in_read a k p u y (z ∷ o ∷ (v ++ (c ∷ []))) rest l i (then_on h.is _ _ (last (less unnested_read) (after_of h (bracketed_is io m ic)) _ tt done))
  comp_by (comp_is {a = a} {n = k} {p = p} {i = q} {t = t} {u = u} {x = y} l i j) rest f =
      let g = test_not q t.lexeme j.is in
      is_read a k p u y (t ∷ []) rest l i g.0 (else_on g.1 _ _ (also (record { is = tells_is test.Null test_of t q j }) _ (λ _. ap (λ (z : IsTest). taken (e.Is a k z p (start_of u)) rest) (told_is test.Null test_of t q j))))
  comp_by (comp_distinct {a = a} {b = d} {n = k} {p = p} {t = t} {y = z} {u = u} {x = y} {v = v} l i j h m) rest f =
      is_read a k p u y (t ∷ z ∷ v) rest l i (r_test r.Distinct (reserved_lexeme r.Not) j refl) (then_on j.is _ _ (also j _ (also h _ (last (less bo) m _ (weak (omega arith) f) done))))

  pub comparison_read : Read (suc n) (Over 8) CompOf (comparison n b)
  comparison_read = record { reads = comp_by }
