-- NOT and comparisons are spelled by the tokens of their prints, if their operands are.
use Rattle.std.proofs.Common.{◌≡◌, ℕ, suc, ◌<◌, List, [], ◌∷◌, ◌++◌, length, map, Some, refl, ◌∙◌, ap, arith}
use Rattle.std.proofs.lemmas.List.{length-append}
use Rattle.sql_names.specs.declared.words.Reserved.TheVariants as r
use Rattle.sql_ast.specs.declared.words.Sign.TheVariants as s
use Rattle.sql_ast.specs.declared.token.Token.{Token}
use Rattle.sql_ast.specs.declared.expr.Comparison.{Comparison}
use Rattle.sql_ast.specs.declared.expr.Comparison.TheVariants as comparison
use Rattle.sql_ast.specs.declared.expr.Quantifier.{Quantifier}
use Rattle.sql_ast.specs.declared.expr.Quantifier.TheVariants as quantifier
use Rattle.sql_ast.specs.declared.expr.IsTest.{IsTest}
use Rattle.sql_ast.specs.declared.expr.IsTest.TheVariants as test
use Rattle.sql_ast.specs.declared.expr.Expr.{Expr}
use Rattle.sql_ast.specs.declared.expr.Expr.TheVariants as e
use Rattle.sql_ast.specs.declared.expr.Expr.TheOpen.{Expr-F}
use Rattle.sql_ast.specs.declared.expr.Expr.TheOpen as ast
use Rattle.sql_ast.specs.Marks.{Tokens, Is, reserved, sign as sign_test, start_of}
use Rattle.sql_ast.specs.Trees.{comparison_lexeme, quantifier_lexeme, test_lexeme, nots}
use Rattle.sql_ast.specs.Parts.{NotsOf, nots_none, nots_more}
use Rattle.sql_ast.specs.Grammar.{ExprOf, QueryOf, ListOf, NegOf, neg_is, BorOf, CompOf, comp_bor, comp_compare, comp_like, comp_like_list, comp_like_unnest, comp_between, comp_in_list, comp_in_query, comp_in_unnest, comp_is, comp_distinct}
use Rattle.sql_ast.specs.Pieces.{Piece, word, bracketed}
use Rattle.sql_ast.specs.Canon.{comparison_piece, quantifier_piece, test_piece, not_if, canon_pieces}
use Rattle.sql_same.specs.Bare.{as_is, BareExpr, BareQuery}
use Rattle.sql_print.specs.PartPieces.{listed, operand}
use Rattle.sql_print.specs.TreePieces.{expr_level, expr_pieces}
use Rattle.sql_print.specs.ExprPieces.{worded}
use Rattle.sql_print.proofs.Carried.{Carries, Found, Back, split, one, nothing, carry, in_three, is_reserved}
use Rattle.sql_print.proofs.BackLevels.{Level, Spelled}
use Rattle.sql_print.proofs.BackLists.{Inner, node, found, negatable, is_or_not, enclosed, back_list, alone_same}

abbrev bare : Expr → Expr
bare = BareExpr as_is

comparison_said : (c : Comparison) → comparison_lexeme (comparison_piece c).lexeme ≡ Some c
comparison_said comparison.Equal = refl
comparison_said comparison.NotEqual = refl
comparison_said comparison.Less = refl
comparison_said comparison.LessEqual = refl
comparison_said comparison.Greater = refl
comparison_said comparison.GreaterEqual = refl

quantifier_said : (q : Quantifier) → quantifier_lexeme (quantifier_piece q).lexeme ≡ Some q
quantifier_said quantifier.Any = refl
quantifier_said quantifier.Some = refl
quantifier_said quantifier.All = refl

test_said : (i : IsTest) → test_lexeme (test_piece i).lexeme ≡ Some i
test_said test.Null = refl
test_said test.True = refl
test_said test.False = refl

-- UNNEST and an expression in brackets
unnested : (a : Expr) → Spelled a → (G : Tokens → Type 0)
    → ((y o c : Token) (u : Tokens) → Is (reserved r.Unnest) y → Is (sign_test s.OpenRound) o → Found ExprOf bare a u → Is (sign_test s.CloseRound) c → G (y ∷ o ∷ (u ++ (c ∷ []))))
    → (ts : Tokens) → Carries (worded expr_pieces r.Unnest a) ts → G ts
unnested a x G k ts h = one G ts h (λ y w e h. enclosed ExprOf bare (expr_pieces a) a x.whole (λ w. G (y ∷ w)) (λ o c u io f ic. k y o c u (is_reserved r.Unnest y e) io f ic) w h)

module _ (n : ℕ) (x : Inner n) (operands : (a : Expr) (u : Tokens) → BorOf a u → length u < suc n → Spelled a) where
  -- an operand of a comparison
  side : (a : Expr) (u : Tokens) → BorOf a u → length u < suc n → Back BorOf bare (operand expr_level expr_pieces 4 a) a
  unfolding Level
  side a u z lt = (operands a u z lt).at 4 (omega arith)

  pub comp_spelled : (a : Expr) (u : Tokens) → CompOf a u → length u < suc n → Spelled a
  unfolding Level
  comp_spelled a u (comp_bor z) lt = operands a u z lt
  comp_spelled _ _ (comp_compare {a = a} {b = b} {c = c} {t = t} {u = u} {v = v} z i y) lt =
      let long = length-append u (t ∷ v) in
      let whole = e.Compare a c t.start b (start_of u) in let shape = ast.Compare a c t.start b (start_of u) in
      node 3 (omega arith) whole shape (e.outs-Compare a c t.start b (start_of u)) refl refl (λ ts h.
      split (Found CompOf bare whole) ts h (λ p q cp cq. one (λ q. Found CompOf bare whole (p ++ q)) q cq (λ k w g cw.
      let f = (side a u z (omega arith)).back p cp in
      let d = (side b v y (omega arith)).back w cw in
      found 3 (p ++ (k ∷ w)) (e.Compare f.tree c k.start d.tree (start_of p)) whole (ast.Compare f.tree c k.start d.tree (start_of p)) shape (e.outs-Compare f.tree c k.start d.tree (start_of p)) (e.outs-Compare a c t.start b (start_of u))
      (comp_compare f.spells (record { is = ap comparison_lexeme g ∙ comparison_said c }) d.spells) (rw f.same (rw d.same refl)))))
  comp_spelled _ _ (comp_like {a = a} {b = b} {n = k} {p = place} {u = u} {x = m} {v = v} z i y) lt =
      let long = length-append u (m ++ v) in let longer = length-append m v in
      let whole = e.Like a k place b (start_of u) in let shape = ast.Like a k place b (start_of u) in
      node 3 (omega arith) whole shape (e.outs-Like a k place b (start_of u)) refl refl (λ ts h.
      split (Found CompOf bare whole) ts (carry (in_three (operand expr_level expr_pieces 4 a) (not_if k) (word r.Like ∷ (operand expr_level expr_pieces 4 b))) ts h) (λ p q cp cq. negatable r.Like k (operand expr_level expr_pieces 4 b) (λ q. Found CompOf bare whole (p ++ q)) (λ at s w j cw.
      let f = (side a u z (omega arith)).back p cp in
      let d = (side b v y (omega arith)).back w cw in
      found 3 (p ++ (s ++ w)) (e.Like f.tree k at d.tree (start_of p)) whole (ast.Like f.tree k at d.tree (start_of p)) shape (e.outs-Like f.tree k at d.tree (start_of p)) (e.outs-Like a k place b (start_of u))
      (comp_like f.spells j d.spells) (rw f.same (rw d.same refl))) q cq))
  comp_spelled _ _ (comp_like_list {a = a} {q = k} {bs = bs} {t = t} {x = j} {o = o} {c = c} {u = u} {v = v} z it iq io y ic) lt =
      let long = length-append u (t ∷ j ∷ o ∷ (v ++ (c ∷ []))) in let longer = length-append v (c ∷ []) in
      let whole = e.LikeList a k t.start bs (start_of u) in let shape = ast.LikeList a k t.start bs (start_of u) in
      node 3 (omega arith) whole shape (e.outs-LikeList a k t.start bs (start_of u)) refl refl (λ ts h.
      split (Found CompOf bare whole) ts h (λ p q cp cq. one (λ q. Found CompOf bare whole (p ++ q)) q cq (λ t' w g cw. one (λ w. Found CompOf bare whole (p ++ (t' ∷ w))) w cw (λ j' w g' cw.
      enclosed ListOf (map bare) (listed expr_pieces bs) bs (back_list n x bs v y (omega arith)) (λ w. Found CompOf bare whole (p ++ (t' ∷ j' ∷ w))) (λ o' c' s io' d ic'.
      let f = (side a u z (omega arith)).back p cp in
      found 3 (p ++ (t' ∷ j' ∷ o' ∷ (s ++ (c' ∷ [])))) (e.LikeList f.tree k t'.start d.tree (start_of p)) whole (ast.LikeList f.tree k t'.start d.tree (start_of p)) shape (e.outs-LikeList f.tree k t'.start d.tree (start_of p)) (e.outs-LikeList a k t.start bs (start_of u))
      (comp_like_list f.spells (is_reserved r.Like t' g) (record { is = ap quantifier_lexeme g' ∙ quantifier_said k }) io' d.spells ic') (rw f.same (ap (λ (m : List Expr). ast.LikeList (bare a) k 0 m 0) d.same))) w cw))))
  comp_spelled _ _ (comp_like_unnest {a = a} {b = b} {q = k} {t = t} {x = j} {y = m} {o = o} {c = c} {u = u} {v = v} z it iq iy io y ic) lt =
      let long = length-append u (t ∷ j ∷ m ∷ o ∷ (v ++ (c ∷ []))) in let longer = length-append v (c ∷ []) in
      let whole = e.LikeUnnest a k t.start b (start_of u) in let shape = ast.LikeUnnest a k t.start b (start_of u) in
      node 3 (omega arith) whole shape (e.outs-LikeUnnest a k t.start b (start_of u)) refl refl (λ ts h.
      split (Found CompOf bare whole) ts h (λ p q cp cq. one (λ q. Found CompOf bare whole (p ++ q)) q cq (λ t' w g cw. one (λ w. Found CompOf bare whole (p ++ (t' ∷ w))) w cw (λ j' w g' cw.
      unnested b (x.expr b v y (omega arith)) (λ w. Found CompOf bare whole (p ++ (t' ∷ j' ∷ w))) (λ y' o' c' s iy' io' d ic'.
      let f = (side a u z (omega arith)).back p cp in
      found 3 (p ++ (t' ∷ j' ∷ y' ∷ o' ∷ (s ++ (c' ∷ [])))) (e.LikeUnnest f.tree k t'.start d.tree (start_of p)) whole (ast.LikeUnnest f.tree k t'.start d.tree (start_of p)) shape (e.outs-LikeUnnest f.tree k t'.start d.tree (start_of p)) (e.outs-LikeUnnest a k t.start b (start_of u))
      (comp_like_unnest f.spells (is_reserved r.Like t' g) (record { is = ap quantifier_lexeme g' ∙ quantifier_said k }) iy' io' d.spells ic') (rw f.same (rw d.same refl))) w cw))))
  comp_spelled _ _ (comp_between {a = a} {b = b} {d = high} {n = k} {p = place} {t = t} {u = u} {x = m} {v = v} {y = w} z i y it y') lt =
      let long = length-append u (m ++ (v ++ (t ∷ w))) in let longer = length-append m (v ++ (t ∷ w)) in let longest = length-append v (t ∷ w) in
      let whole = e.Between a k place b high (start_of u) in let shape = ast.Between a k place b high (start_of u) in
      node 3 (omega arith) whole shape (e.outs-Between a k place b high (start_of u)) refl refl (λ ts h.
      split (Found CompOf bare whole) ts (carry (in_three (operand expr_level expr_pieces 4 a) (not_if k) (word r.Between ∷ (operand expr_level expr_pieces 4 b ++ word r.And ∷ operand expr_level expr_pieces 4 high))) ts h) (λ p q cp cq. negatable r.Between k (operand expr_level expr_pieces 4 b ++ word r.And ∷ operand expr_level expr_pieces 4 high) (λ q. Found CompOf bare whole (p ++ q)) (λ at s q j cq.
      split (λ q. Found CompOf bare whole (p ++ (s ++ q))) q cq (λ p2 q2 cp2 cq2. one (λ q2. Found CompOf bare whole (p ++ (s ++ (p2 ++ q2)))) q2 cq2 (λ t' q3 g cq3.
      let f = (side a u z (omega arith)).back p cp in
      let d = (side b v y (omega arith)).back p2 cp2 in
      let d' = (side high w y' (omega arith)).back q3 cq3 in
      found 3 (p ++ (s ++ (p2 ++ (t' ∷ q3)))) (e.Between f.tree k at d.tree d'.tree (start_of p)) whole (ast.Between f.tree k at d.tree d'.tree (start_of p)) shape (e.outs-Between f.tree k at d.tree d'.tree (start_of p)) (e.outs-Between a k place b high (start_of u))
      (comp_between f.spells j d.spells (is_reserved r.And t' g) d'.spells) (rw f.same (rw d.same (rw d'.same refl)))))) q cq))
  comp_spelled _ _ (comp_in_list {a = a} {bs = bs} {n = k} {p = place} {o = o} {c = c} {u = u} {x = m} {v = v} z i io y lone ic) lt =
      let long = length-append u (m ++ (o ∷ (v ++ (c ∷ [])))) in let longer = length-append m (o ∷ (v ++ (c ∷ []))) in let longest = length-append v (c ∷ []) in
      let whole = e.InList a k place bs (start_of u) in let shape = ast.InList a k place bs (start_of u) in
      node 3 (omega arith) whole shape (e.outs-InList a k place bs (start_of u)) refl refl (λ ts h.
      split (Found CompOf bare whole) ts (carry (in_three (operand expr_level expr_pieces 4 a) (not_if k) (word r.In ∷ (bracketed (listed expr_pieces bs)))) ts h) (λ p q cp cq. negatable r.In k (bracketed (listed expr_pieces bs)) (λ q. Found CompOf bare whole (p ++ q)) (λ at s q j cq.
      enclosed ListOf (map bare) (listed expr_pieces bs) bs (back_list n x bs v y (omega arith)) (λ q. Found CompOf bare whole (p ++ (s ++ q))) (λ o' c' w io' d ic'.
      let f = (side a u z (omega arith)).back p cp in
      found 3 (p ++ (s ++ (o' ∷ (w ++ (c' ∷ []))))) (e.InList f.tree k at d.tree (start_of p)) whole (ast.InList f.tree k at d.tree (start_of p)) shape (e.outs-InList f.tree k at d.tree (start_of p)) (e.outs-InList a k place bs (start_of u))
      (comp_in_list f.spells j io' d.spells (alone_same d.tree bs d.same ∙ lone) ic') (rw f.same (ap (λ (m : List Expr). ast.InList (bare a) k 0 m 0) d.same))) q cq) q cq))
  comp_spelled _ _ (comp_in_query {a = a} {q = b} {n = k} {p = place} {o = o} {c = c} {u = u} {x = m} {v = v} z i io y ic) lt =
      let long = length-append u (m ++ (o ∷ (v ++ (c ∷ [])))) in let longer = length-append m (o ∷ (v ++ (c ∷ []))) in let longest = length-append v (c ∷ []) in
      let whole = e.InQuery a k place b o.start (start_of u) in let shape = ast.InQuery a k place b o.start (start_of u) in
      node 3 (omega arith) whole shape (e.outs-InQuery a k place b o.start (start_of u)) refl refl (λ ts h.
      split (Found CompOf bare whole) ts (carry (in_three (operand expr_level expr_pieces 4 a) (not_if k) (word r.In ∷ (bracketed (canon_pieces b)))) ts h) (λ p q cp cq. negatable r.In k (bracketed (canon_pieces b)) (λ q. Found CompOf bare whole (p ++ q)) (λ at s q j cq.
      enclosed QueryOf (BareQuery as_is) (canon_pieces b) b (x.query b v y (omega arith)) (λ q. Found CompOf bare whole (p ++ (s ++ q))) (λ o' c' w io' d ic'.
      let f = (side a u z (omega arith)).back p cp in
      found 3 (p ++ (s ++ (o' ∷ (w ++ (c' ∷ []))))) (e.InQuery f.tree k at d.tree o'.start (start_of p)) whole (ast.InQuery f.tree k at d.tree o'.start (start_of p)) shape (e.outs-InQuery f.tree k at d.tree o'.start (start_of p)) (e.outs-InQuery a k place b o.start (start_of u))
      (comp_in_query f.spells j io' d.spells ic') (rw f.same (rw d.same refl))) q cq) q cq))
  comp_spelled _ _ (comp_in_unnest {a = a} {b = b} {n = k} {p = place} {y = j} {o = o} {c = c} {u = u} {x = m} {v = v} z i iy io y ic) lt =
      let long = length-append u (m ++ (j ∷ o ∷ (v ++ (c ∷ [])))) in let longer = length-append m (j ∷ o ∷ (v ++ (c ∷ []))) in let longest = length-append v (c ∷ []) in
      let whole = e.InUnnest a k place b (start_of u) in let shape = ast.InUnnest a k place b (start_of u) in
      node 3 (omega arith) whole shape (e.outs-InUnnest a k place b (start_of u)) refl refl (λ ts h.
      split (Found CompOf bare whole) ts (carry (in_three (operand expr_level expr_pieces 4 a) (not_if k) (word r.In ∷ (worded expr_pieces r.Unnest b))) ts h) (λ p q cp cq. negatable r.In k (worded expr_pieces r.Unnest b) (λ q. Found CompOf bare whole (p ++ q)) (λ at s q j' cq.
      unnested b (x.expr b v y (omega arith)) (λ q. Found CompOf bare whole (p ++ (s ++ q))) (λ y' o' c' w iy' io' d ic'.
      let f = (side a u z (omega arith)).back p cp in
      found 3 (p ++ (s ++ (y' ∷ o' ∷ (w ++ (c' ∷ []))))) (e.InUnnest f.tree k at d.tree (start_of p)) whole (ast.InUnnest f.tree k at d.tree (start_of p)) shape (e.outs-InUnnest f.tree k at d.tree (start_of p)) (e.outs-InUnnest a k place b (start_of u))
      (comp_in_unnest f.spells j' iy' io' d.spells ic') (rw f.same (rw d.same refl))) q cq) q cq))
  comp_spelled _ _ (comp_is {a = a} {n = k} {p = place} {i = i} {t = t} {u = u} {x = m} z j it) lt =
      let long = length-append u (m ++ (t ∷ [])) in
      let whole = e.Is a k i place (start_of u) in let shape = ast.Is a k i place (start_of u) in
      node 3 (omega arith) whole shape (e.outs-Is a k i place (start_of u)) refl refl (λ ts h.
      split (Found CompOf bare whole) ts h (λ p q cp cq. is_or_not k (test_piece i ∷ []) (λ q. Found CompOf bare whole (p ++ q)) (λ at s q j' cq.
      one (λ q. Found CompOf bare whole (p ++ (s ++ q))) q cq (λ t' q g cq. nothing (λ q. Found CompOf bare whole (p ++ (s ++ (t' ∷ q)))) q cq (
      let f = (side a u z (omega arith)).back p cp in
      found 3 (p ++ (s ++ (t' ∷ []))) (e.Is f.tree k i at (start_of p)) whole (ast.Is f.tree k i at (start_of p)) shape (e.outs-Is f.tree k i at (start_of p)) (e.outs-Is a k i place (start_of u))
      (comp_is f.spells j' (record { is = ap test_lexeme g ∙ test_said i })) (rw f.same refl)))) q cq))
  comp_spelled _ _ (comp_distinct {a = a} {b = b} {n = k} {p = place} {t = t} {y = j} {u = u} {x = m} {v = v} z i it iy y) lt =
      let long = length-append u (m ++ (t ∷ j ∷ v)) in let longer = length-append m (t ∷ j ∷ v) in
      let whole = e.Distinct a k place b (start_of u) in let shape = ast.Distinct a k place b (start_of u) in
      node 3 (omega arith) whole shape (e.outs-Distinct a k place b (start_of u)) refl refl (λ ts h.
      split (Found CompOf bare whole) ts h (λ p q cp cq. is_or_not k (word r.Distinct ∷ word r.From ∷ operand expr_level expr_pieces 4 b) (λ q. Found CompOf bare whole (p ++ q)) (λ at s q j' cq.
      one (λ q. Found CompOf bare whole (p ++ (s ++ q))) q cq (λ t' q g cq. one (λ q. Found CompOf bare whole (p ++ (s ++ (t' ∷ q)))) q cq (λ y' q g' cq.
      let f = (side a u z (omega arith)).back p cp in
      let d = (side b v y (omega arith)).back q cq in
      found 3 (p ++ (s ++ (t' ∷ y' ∷ q))) (e.Distinct f.tree k at d.tree (start_of p)) whole (ast.Distinct f.tree k at d.tree (start_of p)) shape (e.outs-Distinct f.tree k at d.tree (start_of p)) (e.outs-Distinct a k place b (start_of u))
      (comp_distinct f.spells j' (is_reserved r.Distinct t' g) (is_reserved r.From y' g') d.spells) (rw f.same (rw d.same refl))))) q cq))

  -- ---- NOT

  back_nots : (ps : List ℕ) (v : Tokens) → NotsOf ps v → (rest : List Piece) (G : Tokens → Type 0) → ((qs : List ℕ) (s w : Tokens) → NotsOf qs s → map {B = ℕ} (λ o. 0) qs ≡ map {B = ℕ} (λ o. 0) ps → Carries rest w → G (s ++ w)) → (ts : Tokens) → Carries (map (λ o. word r.Not) ps ++ rest) ts → G ts
  back_nots _ _ nots_none rest G k ts h = k [] [] ts nots_none refl h
  back_nots _ _ (nots_more {t = t} {ps = ps} {v = v} i z) rest G k ts h =
      one G ts h (λ t' w g h. back_nots ps v z rest (λ w. G (t' ∷ w)) (λ qs s w z' same h. k (t'.start ∷ qs) (t' ∷ s) w (nots_more (is_reserved r.Not t' g) z') (ap (λ (m : List ℕ). 0 ∷ m) same) h) w h)

  pub neg_spelled : (a : Expr) (u : Tokens) → NegOf a u → length u < suc n → Spelled a
  unfolding Level nots
  neg_spelled _ _ (neg_is {ps = []} {a = a} {u = u} {v = v} z y) lt = let long = length-append u v in comp_spelled a v y (omega arith)
  neg_spelled _ _ (neg_is {ps = p ∷ ps} {a = a} {u = u} {v = v} z y) lt =
      let long = length-append u v in
      let whole = e.Not (p ∷ ps) a p in let shape = ast.Not (p ∷ ps) a p in
      node 2 (omega arith) whole shape (e.outs-Not (p ∷ ps) a p) refl refl (λ ts h.
      back_nots (p ∷ ps) u z (operand expr_level expr_pieces 3 a) (Found NegOf bare whole) (λ qs s w z' same cw.
      with_nots whole a p ps qs s w z' same (((comp_spelled a v y (omega arith)).at 3 (omega arith)).back w cw)) ts h)
    where
      with_nots : (whole : Expr) (a : Expr) (p : ℕ) (ps qs : List ℕ) (s w : Tokens) → NotsOf qs s → map {B = ℕ} (λ o. 0) qs ≡ map {B = ℕ} (λ o. 0) (p ∷ ps) → Found CompOf bare a w → Found NegOf bare (e.Not (p ∷ ps) a p) (s ++ w)
      with_nots whole a p ps [] s w z' same f = absurd (cc)
      with_nots whole a p ps (q ∷ qs) s w z' same f =
          found 2 (s ++ w) (e.Not (q ∷ qs) f.tree q) (e.Not (p ∷ ps) a p) (ast.Not (q ∷ qs) f.tree q) (ast.Not (p ∷ ps) a p) (e.outs-Not (q ∷ qs) f.tree q) (e.outs-Not (p ∷ ps) a p)
          (neg_is z' f.spells) (rw same (rw f.same refl))
