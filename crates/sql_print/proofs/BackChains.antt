-- Chains of operators are spelled by the tokens of their prints, if their operands are.
use Rattle.std.proofs.Common.{◌≡◌, ℕ, suc, ◌<◌, false, List, [], ◌∷◌, ◌++◌, length, map, refl, sym, ◌∙◌, ap, subst, arith}
use Rattle.std.proofs.lemmas.List.{length-append}
use Rattle.sql_names.specs.declared.words.Reserved.TheVariants as r
use Rattle.sql_ast.specs.declared.words.Sign.TheVariants as s
use Rattle.sql_ast.specs.declared.expr.Expr.{Expr, out-Expr}
use Rattle.sql_ast.specs.declared.expr.Expr.TheVariants as e
use Rattle.sql_ast.specs.declared.expr.Expr.TheOpen.{Expr-F}
use Rattle.sql_ast.specs.declared.expr.Expr.TheOpen as ast
use Rattle.sql_ast.specs.declared.expr.Link.{Link}
use Rattle.sql_ast.specs.declared.expr.Operator.TheVariants as operator
use Rattle.sql_ast.specs.declared.query.Primary.{Primary}
use Rattle.sql_ast.specs.declared.query.Term.{Term}
use Rattle.sql_ast.specs.declared.query.FromItem.{FromItem}
use Rattle.sql_ast.specs.declared.query.Joined.{Joined}
use Rattle.sql_ast.specs.declared.query.Query.{Query}
use Rattle.sql_ast.specs.declared.query.Select.{Select}
use Rattle.sql_ast.specs.Marks.{Tokens, start_of}
use Rattle.sql_ast.specs.Trees.{link, chain, is_subquery, subquery_layer, sum_lexeme, product_lexeme}
use Rattle.sql_ast.specs.Grammar.{ExprOf, expr_is, OrsOf, ors_none, ors_more, ConjOf, conj_is, AndsOf, ands_none, ands_more, NegOf, BorOf, bor_is, BorsOf, bors_none, bors_more, BxorOf, bxor_is, BxorsOf, bxors_none, bxors_more, BandOf, band_is, BandsOf, bands_none, bands_more, ShiftOf, SumOf, sum_is, SumsOf, sums_none, sums_more, ProdOf, prod_is, ProdsOf, prods_none, prods_more, UnaryOf}
use Rattle.sql_ast.specs.Pieces.{Piece}
use Rattle.sql_same.specs.Bare.{as_is, bare_link, BareExpr}
use Rattle.sql_same.proofs.BareLaws.{expr_at as bare_at}
use Rattle.sql_same.proofs.BareSame.{same_expr}
use Rattle.sql_print.specs.PartPieces.{run, operand, link_pieces}
use Rattle.sql_print.specs.TreePieces.{expr_level, expr_pieces}
use Rattle.sql_print.proofs.CanonLaws.{level_at, pieces_at}
use Rattle.sql_print.proofs.Carried.{Carries, Found, Back, split, one, nothing, is_reserved, is_sign}
use Rattle.sql_print.proofs.BackLevels.{Level, Spelled, spelled_at}
use Rattle.sql_print.proofs.BackOperators.{sum_kept, sum_said, product_kept, product_said}

abbrev bare : Expr → Expr
bare = BareExpr as_is

abbrev bares : List (Link Expr) → List (Link Expr)
bares = map (bare_link bare)

-- the tokens of links, and the operand before them
abbrev linked : ℕ → List (Link Expr) → List Piece
linked needed ls = run (link_pieces expr_level expr_pieces needed) ls

-- ---- a chain of any level

module _ (k : ℕ) (low : k < 12) (make : Expr → List (Link Expr) → ℕ → Expr) (shape : Expr → List (Link Expr) → ℕ → Expr-F Expr Primary Term FromItem Joined Query Select) (Rest : List (Link Expr) → Tokens → Type 0)
    (joins : (a : Expr) (ls : List (Link Expr)) (u v : Tokens) → Level (suc k) a u → Rest ls v → Level k (chain make a ls (start_of u)) (u ++ v))
    (outs : (a : Expr) (ls : List (Link Expr)) (p : ℕ) → out-Expr (make a ls p) ≡ shape a ls p)
    (level : (a : Expr) (ls : List (Link Expr)) (p : ℕ) → level_at (shape a ls p) ≡ k)
    (prints : (a : Expr) (ls : List (Link Expr)) (p : ℕ) → pieces_at (shape a ls p) ≡ operand expr_level expr_pieces (suc k) a ++ linked (suc k) ls)
    (no_query : (a : Expr) (ls : List (Link Expr)) (p : ℕ) → subquery_layer (shape a ls p) ≡ false)
    (same : (a b : Expr) (ls ms : List (Link Expr)) (p q : ℕ) → bare a ≡ bare b → bares ls ≡ bares ms → bare_at as_is (shape a ls p) ≡ bare_at as_is (shape b ms q)) where
  no_subquery : (a : Expr) (ls : List (Link Expr)) (p : ℕ) → is_subquery (make a ls p) ≡ false
  unfolding is_subquery
  no_subquery a ls p = ap subquery_layer (outs a ls p) ∙ no_query a ls p

  -- there are links where there were
  made : (b : Expr) (ms : List (Link Expr)) (q : ℕ) (l : Link Expr) (ls : List (Link Expr)) → bares ms ≡ bares (l ∷ ls) → chain make b ms q ≡ make b ms q
  unfolding chain
  made b [] q l ls h = absurd (cc)
  made b (m ∷ ms) q l ls h = refl

  pub chain_spelled : (a : Expr) (ls : List (Link Expr)) (p : ℕ) → Spelled a → Back Rest bares (linked (suc k) ls) ls → Spelled (chain make a ls p)
  unfolding chain
  chain_spelled a [] p x y = x
  chain_spelled a (l ∷ ls) p x y =
      spelled_at (make a (l ∷ ls) p) (shape a (l ∷ ls) p) k (outs a (l ∷ ls) p) (level a (l ∷ ls) p) (omega arith) (λ _. no_subquery a (l ∷ ls) p)
      (subst (λ (ps : List Piece). Back (Level k) bare ps (make a (l ∷ ls) p)) (sym (prints a (l ∷ ls) p)) (record {
        back = λ ts c. split (Found (Level k) bare (make a (l ∷ ls) p)) ts c (λ u v cu cv.
            let f = (x.at (suc k) (omega arith)).back u cu in
            let g = y.back v cv in
            record {
              tree = make f.tree g.tree (start_of u);
              spells = subst (λ (t : Expr). Level k t (u ++ v)) (made f.tree g.tree (start_of u) l ls g.same) (joins f.tree g.tree u v f.spells g.spells);
              same = same_expr as_is (make f.tree g.tree (start_of u)) (make a (l ∷ ls) p) (shape f.tree g.tree (start_of u)) (shape a (l ∷ ls) p) (outs f.tree g.tree (start_of u)) (outs a (l ∷ ls) p)
                  (same f.tree a g.tree (l ∷ ls) (start_of u) p f.same g.same);
            });
      }))

-- ---- links of each level

module _ (n : ℕ) where
  module _ (operands : (a : Expr) (u : Tokens) → ConjOf a u → length u < n → Spelled a) where
    back_ors : (ls : List (Link Expr)) (v : Tokens) → OrsOf ls v → length v < n → Back OrsOf bares (linked 1 ls) ls
    unfolding Level link
    back_ors _ _ ors_none lt = record { back = λ ts h. nothing (Found OrsOf bares []) ts h (record { tree = []; spells = ors_none; same = refl }) }
    back_ors _ _ (ors_more {t = t} {a = a} {ls = ls} {u = u} {v = v} i z y) lt =
        let long = length-append u v in record {
          back = λ ts h.
              one (Found OrsOf bares (link operator.Or t a ∷ ls)) ts h (λ x w e h. split (λ w. Found OrsOf bares (link operator.Or t a ∷ ls) (x ∷ w)) w h (λ p q cp cq.
              let f = ((operands a u z (omega arith)).at 1 (omega arith)).back p cp in
              let g = (back_ors ls v y (omega arith)).back q cq in
              record {
                tree = link operator.Or x f.tree ∷ g.tree;
                spells = ors_more (is_reserved r.Or x e) f.spells g.spells;
                same = rw f.same (ap (λ (m : List (Link Expr)). bare_link bare (link operator.Or t a) ∷ m) g.same);
              }));
        }

    pub expr_spelled : (a : Expr) (u : Tokens) → ExprOf a u → length u < n → Spelled a
    unfolding Level
    expr_spelled _ _ (expr_is {a = a} {ls = ls} {u = u} {v = v} z y) lt =
        let long = length-append u v in
        chain_spelled 0 (omega arith) e.Or (λ a ls p. ast.Or a ls p) OrsOf (λ a ls u v i j. expr_is i j) e.outs-Or (λ a ls p. refl) (λ a ls p. refl) (λ a ls p. refl)
        (λ a b ls ms p q x y. rw x (ap (λ (m : List (Link Expr)). ast.Or (bare b) m 0) y)) a ls (start_of u) (operands a u z (omega arith)) (back_ors ls v y (omega arith))

  module _ (operands : (a : Expr) (u : Tokens) → NegOf a u → length u < n → Spelled a) where
    back_ands : (ls : List (Link Expr)) (v : Tokens) → AndsOf ls v → length v < n → Back AndsOf bares (linked 2 ls) ls
    unfolding Level link
    back_ands _ _ ands_none lt = record { back = λ ts h. nothing (Found AndsOf bares []) ts h (record { tree = []; spells = ands_none; same = refl }) }
    back_ands _ _ (ands_more {t = t} {a = a} {ls = ls} {u = u} {v = v} i z y) lt =
        let long = length-append u v in record {
          back = λ ts h.
              one (Found AndsOf bares (link operator.And t a ∷ ls)) ts h (λ x w e h. split (λ w. Found AndsOf bares (link operator.And t a ∷ ls) (x ∷ w)) w h (λ p q cp cq.
              let f = ((operands a u z (omega arith)).at 2 (omega arith)).back p cp in
              let g = (back_ands ls v y (omega arith)).back q cq in
              record {
                tree = link operator.And x f.tree ∷ g.tree;
                spells = ands_more (is_reserved r.And x e) f.spells g.spells;
                same = rw f.same (ap (λ (m : List (Link Expr)). bare_link bare (link operator.And t a) ∷ m) g.same);
              }));
        }

    pub conj_spelled : (a : Expr) (u : Tokens) → ConjOf a u → length u < n → Spelled a
    unfolding Level
    conj_spelled _ _ (conj_is {a = a} {ls = ls} {u = u} {v = v} z y) lt =
        let long = length-append u v in
        chain_spelled 1 (omega arith) e.And (λ a ls p. ast.And a ls p) AndsOf (λ a ls u v i j. conj_is i j) e.outs-And (λ a ls p. refl) (λ a ls p. refl) (λ a ls p. refl)
        (λ a b ls ms p q x y. rw x (ap (λ (m : List (Link Expr)). ast.And (bare b) m 0) y)) a ls (start_of u) (operands a u z (omega arith)) (back_ands ls v y (omega arith))

  module _ (operands : (a : Expr) (u : Tokens) → BxorOf a u → length u < n → Spelled a) where
    back_bors : (ls : List (Link Expr)) (v : Tokens) → BorsOf ls v → length v < n → Back BorsOf bares (linked 5 ls) ls
    unfolding Level link
    back_bors _ _ bors_none lt = record { back = λ ts h. nothing (Found BorsOf bares []) ts h (record { tree = []; spells = bors_none; same = refl }) }
    back_bors _ _ (bors_more {t = t} {a = a} {ls = ls} {u = u} {v = v} i z y) lt =
        let long = length-append u v in record {
          back = λ ts h.
              one (Found BorsOf bares (link operator.BitOr t a ∷ ls)) ts h (λ x w e h. split (λ w. Found BorsOf bares (link operator.BitOr t a ∷ ls) (x ∷ w)) w h (λ p q cp cq.
              let f = ((operands a u z (omega arith)).at 5 (omega arith)).back p cp in
              let g = (back_bors ls v y (omega arith)).back q cq in
              record {
                tree = link operator.BitOr x f.tree ∷ g.tree;
                spells = bors_more (is_sign s.Bar x e) f.spells g.spells;
                same = rw f.same (ap (λ (m : List (Link Expr)). bare_link bare (link operator.BitOr t a) ∷ m) g.same);
              }));
        }

    pub bor_spelled : (a : Expr) (u : Tokens) → BorOf a u → length u < n → Spelled a
    unfolding Level
    bor_spelled _ _ (bor_is {a = a} {ls = ls} {u = u} {v = v} z y) lt =
        let long = length-append u v in
        chain_spelled 4 (omega arith) e.BitOr (λ a ls p. ast.BitOr a ls p) BorsOf (λ a ls u v i j. bor_is i j) e.outs-BitOr (λ a ls p. refl) (λ a ls p. refl) (λ a ls p. refl)
        (λ a b ls ms p q x y. rw x (ap (λ (m : List (Link Expr)). ast.BitOr (bare b) m 0) y)) a ls (start_of u) (operands a u z (omega arith)) (back_bors ls v y (omega arith))

  module _ (operands : (a : Expr) (u : Tokens) → BandOf a u → length u < n → Spelled a) where
    back_bxors : (ls : List (Link Expr)) (v : Tokens) → BxorsOf ls v → length v < n → Back BxorsOf bares (linked 6 ls) ls
    unfolding Level link
    back_bxors _ _ bxors_none lt = record { back = λ ts h. nothing (Found BxorsOf bares []) ts h (record { tree = []; spells = bxors_none; same = refl }) }
    back_bxors _ _ (bxors_more {t = t} {a = a} {ls = ls} {u = u} {v = v} i z y) lt =
        let long = length-append u v in record {
          back = λ ts h.
              one (Found BxorsOf bares (link operator.BitXor t a ∷ ls)) ts h (λ x w e h. split (λ w. Found BxorsOf bares (link operator.BitXor t a ∷ ls) (x ∷ w)) w h (λ p q cp cq.
              let f = ((operands a u z (omega arith)).at 6 (omega arith)).back p cp in
              let g = (back_bxors ls v y (omega arith)).back q cq in
              record {
                tree = link operator.BitXor x f.tree ∷ g.tree;
                spells = bxors_more (is_sign s.Caret x e) f.spells g.spells;
                same = rw f.same (ap (λ (m : List (Link Expr)). bare_link bare (link operator.BitXor t a) ∷ m) g.same);
              }));
        }

    pub bxor_spelled : (a : Expr) (u : Tokens) → BxorOf a u → length u < n → Spelled a
    unfolding Level
    bxor_spelled _ _ (bxor_is {a = a} {ls = ls} {u = u} {v = v} z y) lt =
        let long = length-append u v in
        chain_spelled 5 (omega arith) e.BitXor (λ a ls p. ast.BitXor a ls p) BxorsOf (λ a ls u v i j. bxor_is i j) e.outs-BitXor (λ a ls p. refl) (λ a ls p. refl) (λ a ls p. refl)
        (λ a b ls ms p q x y. rw x (ap (λ (m : List (Link Expr)). ast.BitXor (bare b) m 0) y)) a ls (start_of u) (operands a u z (omega arith)) (back_bxors ls v y (omega arith))

  module _ (operands : (a : Expr) (u : Tokens) → ShiftOf a u → length u < n → Spelled a) where
    back_bands : (ls : List (Link Expr)) (v : Tokens) → BandsOf ls v → length v < n → Back BandsOf bares (linked 7 ls) ls
    unfolding Level link
    back_bands _ _ bands_none lt = record { back = λ ts h. nothing (Found BandsOf bares []) ts h (record { tree = []; spells = bands_none; same = refl }) }
    back_bands _ _ (bands_more {t = t} {a = a} {ls = ls} {u = u} {v = v} i z y) lt =
        let long = length-append u v in record {
          back = λ ts h.
              one (Found BandsOf bares (link operator.BitAnd t a ∷ ls)) ts h (λ x w e h. split (λ w. Found BandsOf bares (link operator.BitAnd t a ∷ ls) (x ∷ w)) w h (λ p q cp cq.
              let f = ((operands a u z (omega arith)).at 7 (omega arith)).back p cp in
              let g = (back_bands ls v y (omega arith)).back q cq in
              record {
                tree = link operator.BitAnd x f.tree ∷ g.tree;
                spells = bands_more (is_sign s.Ampersand x e) f.spells g.spells;
                same = rw f.same (ap (λ (m : List (Link Expr)). bare_link bare (link operator.BitAnd t a) ∷ m) g.same);
              }));
        }

    pub band_spelled : (a : Expr) (u : Tokens) → BandOf a u → length u < n → Spelled a
    unfolding Level
    band_spelled _ _ (band_is {a = a} {ls = ls} {u = u} {v = v} z y) lt =
        let long = length-append u v in
        chain_spelled 6 (omega arith) e.BitAnd (λ a ls p. ast.BitAnd a ls p) BandsOf (λ a ls u v i j. band_is i j) e.outs-BitAnd (λ a ls p. refl) (λ a ls p. refl) (λ a ls p. refl)
        (λ a b ls ms p q x y. rw x (ap (λ (m : List (Link Expr)). ast.BitAnd (bare b) m 0) y)) a ls (start_of u) (operands a u z (omega arith)) (back_bands ls v y (omega arith))

  module _ (operands : (a : Expr) (u : Tokens) → ProdOf a u → length u < n → Spelled a) where
    back_sums : (ls : List (Link Expr)) (v : Tokens) → SumsOf ls v → length v < n → Back SumsOf bares (linked 9 ls) ls
    unfolding Level link
    back_sums _ _ sums_none lt = record { back = λ ts h. nothing (Found SumsOf bares []) ts h (record { tree = []; spells = sums_none; same = refl }) }
    back_sums _ _ (sums_more {o = o} {t = t} {a = a} {ls = ls} {u = u} {v = v} i z y) lt =
        let long = length-append u v in record {
          back = λ ts h.
              one (Found SumsOf bares (link o t a ∷ ls)) ts (subst (λ (ps : List Piece). Carries (ps ++ linked 9 ls) ts) (ap (λ (ps : List Piece). ps ++ operand expr_level expr_pieces 9 a) (sum_said o (sum_kept t o i)).0) h) (λ x w e h. split (λ w. Found SumsOf bares (link o t a ∷ ls) (x ∷ w)) w h (λ p q cp cq.
              let f = ((operands a u z (omega arith)).at 9 (omega arith)).back p cp in
              let g = (back_sums ls v y (omega arith)).back q cq in
              record {
                tree = link o x f.tree ∷ g.tree;
                spells = sums_more (record { is = ap sum_lexeme e ∙ (sum_said o (sum_kept t o i)).1 }) f.spells g.spells;
                same = rw f.same (ap (λ (m : List (Link Expr)). bare_link bare (link o t a) ∷ m) g.same);
              }));
        }

    pub sum_spelled : (a : Expr) (u : Tokens) → SumOf a u → length u < n → Spelled a
    unfolding Level
    sum_spelled _ _ (sum_is {a = a} {ls = ls} {u = u} {v = v} z y) lt =
        let long = length-append u v in
        chain_spelled 8 (omega arith) e.Sum (λ a ls p. ast.Sum a ls p) SumsOf (λ a ls u v i j. sum_is i j) e.outs-Sum (λ a ls p. refl) (λ a ls p. refl) (λ a ls p. refl)
        (λ a b ls ms p q x y. rw x (ap (λ (m : List (Link Expr)). ast.Sum (bare b) m 0) y)) a ls (start_of u) (operands a u z (omega arith)) (back_sums ls v y (omega arith))

  module _ (operands : (a : Expr) (u : Tokens) → UnaryOf a u → length u < n → Spelled a) where
    back_prods : (ls : List (Link Expr)) (v : Tokens) → ProdsOf ls v → length v < n → Back ProdsOf bares (linked 10 ls) ls
    unfolding Level link
    back_prods _ _ prods_none lt = record { back = λ ts h. nothing (Found ProdsOf bares []) ts h (record { tree = []; spells = prods_none; same = refl }) }
    back_prods _ _ (prods_more {o = o} {t = t} {a = a} {ls = ls} {u = u} {v = v} i z y) lt =
        let long = length-append u v in record {
          back = λ ts h.
              one (Found ProdsOf bares (link o t a ∷ ls)) ts (subst (λ (ps : List Piece). Carries (ps ++ linked 10 ls) ts) (ap (λ (ps : List Piece). ps ++ operand expr_level expr_pieces 10 a) (product_said o (product_kept t o i)).0) h) (λ x w e h. split (λ w. Found ProdsOf bares (link o t a ∷ ls) (x ∷ w)) w h (λ p q cp cq.
              let f = ((operands a u z (omega arith)).at 10 (omega arith)).back p cp in
              let g = (back_prods ls v y (omega arith)).back q cq in
              record {
                tree = link o x f.tree ∷ g.tree;
                spells = prods_more (record { is = ap product_lexeme e ∙ (product_said o (product_kept t o i)).1 }) f.spells g.spells;
                same = rw f.same (ap (λ (m : List (Link Expr)). bare_link bare (link o t a) ∷ m) g.same);
              }));
        }

    pub prod_spelled : (a : Expr) (u : Tokens) → ProdOf a u → length u < n → Spelled a
    unfolding Level
    prod_spelled _ _ (prod_is {a = a} {ls = ls} {u = u} {v = v} z y) lt =
        let long = length-append u v in
        chain_spelled 9 (omega arith) e.Product (λ a ls p. ast.Product a ls p) ProdsOf (λ a ls u v i j. prod_is i j) e.outs-Product (λ a ls p. refl) (λ a ls p. refl) (λ a ls p. refl)
        (λ a b ls ms p q x y. rw x (ap (λ (m : List (Link Expr)). ast.Product (bare b) m 0) y)) a ls (start_of u) (operands a u z (omega arith)) (back_prods ls v y (omega arith))
