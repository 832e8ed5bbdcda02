-- An expression whose print is spelled at its own level is spelled at each place: where its level is high enough as it is,
-- and else in brackets.
use Rattle.std.proofs.Common.{◌≡◌, ℕ, zero, suc, ◌+◌, ◌-◌, ◌<◌, ◌≤◌, nat_lt, Bool, true, false, if◌then◌else◌, List, [], ◌∷◌, ◌++◌, refl, sym, ◌∙◌, ap, subst, arith}
use Rattle.std.proofs.lemmas.List.{append-nil}
use Rattle.std.proofs.lemmas.Bool.Decides.{nat_tests}
use Rattle.sql_ast.specs.declared.words.Sign.TheVariants as s
use Rattle.sql_ast.specs.declared.expr.Expr.{Expr, out-Expr}
use Rattle.sql_ast.specs.declared.expr.Expr.TheOpen.{Expr-F}
use Rattle.sql_ast.specs.declared.expr.Expr.TheOpen as ast
use Rattle.sql_ast.specs.declared.query.Primary.{Primary}
use Rattle.sql_ast.specs.declared.query.Term.{Term}
use Rattle.sql_ast.specs.declared.query.FromItem.{FromItem}
use Rattle.sql_ast.specs.declared.query.Joined.{Joined}
use Rattle.sql_ast.specs.declared.query.Query.{Query}
use Rattle.sql_ast.specs.declared.query.Select.{Select}
use Rattle.sql_ast.specs.Marks.{Tokens}
use Rattle.sql_ast.specs.Trees.{chain, nots, prefixes, path, is_subquery, subquery_layer}
use Rattle.sql_ast.specs.Parts.{nots_none, prefixes_none}
use Rattle.sql_ast.specs.Grammar.{ExprOf, expr_is, ors_none, ConjOf, conj_is, ands_none, NegOf, neg_is, CompOf, comp_bor, BorOf, bor_is, bors_none, BxorOf, bxor_is, bxors_none, BandOf, band_is, bands_none, ShiftOf, shift_is, shifts_none, SumOf, sum_is, sums_none, ProdOf, prod_is, prods_none, UnaryOf, unary_is, PostfixOf, postfix_is, parts_none, BasicOf, basic_group}
use Rattle.sql_ast.specs.Pieces.{Piece, bracketed}
use Rattle.sql_same.specs.Bare.{as_is, BareExpr}
use Rattle.sql_same.proofs.BareLaws.{bare_expr, expr_at as bare_at}
use Rattle.sql_print.specs.PartPieces.{operand}
use Rattle.sql_print.specs.TreePieces.{expr_level, expr_pieces}
use Rattle.sql_print.proofs.CanonLaws.{level_at, pieces_at, level_expr, pieces_expr}
use Rattle.sql_print.proofs.Carried.{Found, Back, split, one, nothing, is_sign}

-- what is spelled at each level, from the loosest to the tightest
unfoldable pub Level : ℕ → Expr → Tokens → Type 0
Level zero = ExprOf
Level (suc zero) = ConjOf
Level (suc (suc zero)) = NegOf
Level (suc (suc (suc zero))) = CompOf
Level (suc (suc (suc (suc zero)))) = BorOf
Level (suc (suc (suc (suc (suc zero))))) = BxorOf
Level (suc (suc (suc (suc (suc (suc zero)))))) = BandOf
Level (suc (suc (suc (suc (suc (suc (suc zero))))))) = ShiftOf
Level (suc (suc (suc (suc (suc (suc (suc (suc zero)))))))) = SumOf
Level (suc (suc (suc (suc (suc (suc (suc (suc (suc zero))))))))) = ProdOf
Level (suc (suc (suc (suc (suc (suc (suc (suc (suc (suc zero)))))))))) = UnaryOf
Level (suc (suc (suc (suc (suc (suc (suc (suc (suc (suc (suc zero))))))))))) = PostfixOf
Level (suc (suc (suc (suc (suc (suc (suc (suc (suc (suc (suc (suc k)))))))))))) = BasicOf

alone : {A : Type 0} (L : A → Tokens → Type 0) (a : A) (u : Tokens) → L a (u ++ []) → L a u
alone L a u h = subst (L a) (append-nil u) h

-- what is spelled at a level is spelled at each looser one, as the same tree
looser : (k : ℕ) (a : Expr) (u : Tokens) → Level (suc k) a u → Level k a u
unfolding Level chain nots prefixes path
looser zero a u h = alone ExprOf a u (expr_is h ors_none)
looser (suc zero) a u h = alone ConjOf a u (conj_is h ands_none)
looser (suc (suc zero)) a u h = neg_is nots_none h
looser (suc (suc (suc zero))) a u h = comp_bor h
looser (suc (suc (suc (suc zero)))) a u h = alone BorOf a u (bor_is h bors_none)
looser (suc (suc (suc (suc (suc zero))))) a u h = alone BxorOf a u (bxor_is h bxors_none)
looser (suc (suc (suc (suc (suc (suc zero)))))) a u h = alone BandOf a u (band_is h bands_none)
looser (suc (suc (suc (suc (suc (suc (suc zero))))))) a u h = alone ShiftOf a u (shift_is h shifts_none)
looser (suc (suc (suc (suc (suc (suc (suc (suc zero)))))))) a u h = alone SumOf a u (sum_is h sums_none)
looser (suc (suc (suc (suc (suc (suc (suc (suc (suc zero))))))))) a u h = alone ProdOf a u (prod_is h prods_none)
looser (suc (suc (suc (suc (suc (suc (suc (suc (suc (suc zero)))))))))) a u h = unary_is prefixes_none h
looser (suc (suc (suc (suc (suc (suc (suc (suc (suc (suc (suc zero))))))))))) a u h = alone PostfixOf a u (postfix_is h parts_none)
looser (suc (suc (suc (suc (suc (suc (suc (suc (suc (suc (suc (suc k)))))))))))) a u h = h

loosest : (d k : ℕ) (a : Expr) (u : Tokens) → Level (k + d) a u → Level k a u
loosest zero k a u h = subst (λ (n : ℕ). Level n a u) (omega arith) h
loosest (suc d) k a u h = loosest d k a u (looser (k + d) a u (subst (λ (n : ℕ). Level n a u) (let e : k + suc d ≡ suc (k + d) = omega arith in e) h))

at_looser : (j k : ℕ) (ps : List Piece) (a : Expr) → j ≤ k → Back (Level k) (BareExpr as_is) ps a → Back (Level j) (BareExpr as_is) ps a
at_looser j k ps a le b = record {
  back = λ ts c. let f = b.back ts c in record {
    tree = f.tree;
    spells = loosest (k - j) j f.tree ts (subst (λ (n : ℕ). Level n f.tree ts) (let e : k ≡ j + (k - j) = omega arith in e) f.spells);
    same = f.same;
  };
}

-- ---- brackets

subquery_kept : (z : Expr-F Expr Primary Term FromItem Joined Query Select) → subquery_layer (bare_at as_is z) ≡ subquery_layer z
subquery_kept (ast.Scalar q p) = refl
subquery_kept _ = refl

-- whether an expression is a subquery doesn't hang on places
pub subquery_same : (a b : Expr) → BareExpr as_is a ≡ BareExpr as_is b → is_subquery a ≡ is_subquery b
unfolding is_subquery
subquery_same a b e =
    sym (ap subquery_layer (bare_expr as_is a) ∙ subquery_kept (out-Expr a)) ∙ ap (λ x. subquery_layer (out-Expr x)) e ∙ ap subquery_layer (bare_expr as_is b) ∙ subquery_kept (out-Expr b)

in_brackets : (ps : List Piece) (a : Expr) → is_subquery a ≡ false → Back ExprOf (BareExpr as_is) ps a → Back BasicOf (BareExpr as_is) (bracketed ps) a
in_brackets ps a no_query b = record {
  back = λ ts h.
      one (Found BasicOf (BareExpr as_is) a) ts h (λ o v e h. split (λ v. Found BasicOf (BareExpr as_is) a (o ∷ v)) v h (λ u w cu cw.
      one (λ w. Found BasicOf (BareExpr as_is) a (o ∷ (u ++ w))) w cw (λ c w f cw. nothing (λ w. Found BasicOf (BareExpr as_is) a (o ∷ (u ++ (c ∷ w)))) w cw (
      let x = b.back u cu in record {
        tree = x.tree;
        spells = basic_group (is_sign s.OpenRound o e) x.spells (subquery_same x.tree a x.same ∙ no_query) (is_sign s.CloseRound c f);
        same = x.same;
      }))));
}

-- ---- at each place

-- The print of an expression is spelled where each may stand, and at each place that needs a level, in brackets or not.
pub record Spelled (a : Expr) : Type 0 where
  pub whole : Back ExprOf (BareExpr as_is) (expr_pieces a) a
  pub at : (k : ℕ) → k ≤ 12 → Back (Level k) (BareExpr as_is) (operand expr_level expr_pieces k a) a

module _ (a : Expr) (z : Expr-F Expr Primary Term FromItem Joined Query Select) (level : ℕ) (is : out-Expr a ≡ z) (up : level_at z ≡ level) (low : level ≤ 12) (no_query : level < 12 → is_subquery a ≡ false)
    (b : Back (Level level) (BareExpr as_is) (pieces_at z) a) where
  pieces_is : expr_pieces a ≡ pieces_at z
  pieces_is = pieces_expr a ∙ ap pieces_at is

  level_is : expr_level a ≡ level
  level_is = level_expr a ∙ ap level_at is ∙ up

  own : Back (Level level) (BareExpr as_is) (expr_pieces a) a
  own = subst (λ (ps : List Piece). Back (Level level) (BareExpr as_is) ps a) (sym pieces_is) b

  all : Back ExprOf (BareExpr as_is) (expr_pieces a) a
  unfolding Level
  all = at_looser 0 level (expr_pieces a) a (omega arith) own

  enough : (k : ℕ) → nat_lt level k ≡ false → k ≤ level
  enough k e = grind (arith, nat_tests)

  less : (k : ℕ) → nat_lt level k ≡ true → level < k
  less k e = grind (arith, nat_tests)

  by : (k : ℕ) → k ≤ 12 → (t : Bool) → nat_lt level k ≡ t → Back (Level k) (BareExpr as_is) (if t then bracketed (expr_pieces a) else expr_pieces a) a
  unfolding Level
  by k le true e = at_looser k 12 (bracketed (expr_pieces a)) a le (in_brackets (expr_pieces a) a (no_query (let g = less k e in omega arith)) all)
  by k le false e = at_looser k level (expr_pieces a) a (enough k e) own

  pub spelled_at : Spelled a
  spelled_at = record {
    whole = all;
    at = λ k le. subst (λ (n : ℕ). Back (Level k) (BareExpr as_is) (if nat_lt n k then bracketed (expr_pieces a) else expr_pieces a) a) (sym level_is) (by k le (nat_lt level k) refl);
  }
