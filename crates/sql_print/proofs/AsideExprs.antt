-- The print of an expression doesn't hang on places, if those of its parts don't.
use Rattle.std.proofs.Common.{◌≡◌, [], ◌∷◌, ◌++◌, refl, sym, ◌∙◌, ap}
use Rattle.sql_names.specs.declared.words.Reserved.TheVariants as r
use Rattle.sql_ast.specs.declared.words.Sign.TheVariants as s
use Rattle.sql_ast.specs.declared.words.Word.TheVariants as w
use Rattle.sql_ast.specs.declared.expr.Expr.{Expr, roll-Expr, out-roll-Expr, map-Expr}
use Rattle.sql_ast.specs.declared.query.Primary.{Primary}
use Rattle.sql_ast.specs.declared.query.Term.{Term}
use Rattle.sql_ast.specs.declared.query.FromItem.{FromItem}
use Rattle.sql_ast.specs.declared.query.Joined.{Joined}
use Rattle.sql_ast.specs.declared.query.Query.{Query}
use Rattle.sql_ast.specs.declared.query.Select.{Select}
use Rattle.sql_ast.specs.declared.expr.Expr.TheOpen.{Expr-F}
use Rattle.sql_ast.specs.declared.expr.Expr.TheOpen as ast
use Rattle.sql_ast.specs.Pieces.{word, name, read_word, sign, bracketed, with_commas}
use Rattle.sql_ast.specs.Canon.{at_level, basic, or_level, and_level, not_level, comparison_level, bit_or_level, bit_xor_level, bit_and_level, shift_level, sum_level, product_level, unary_level, postfix_level, angled, comparison_piece, quantifier_piece, test_piece, not_if, basic_level}
use Rattle.sql_print.specs.ExprPieces as exprs
use Rattle.sql_same.specs.Bare.{as_is, BareExpr}
use Rattle.sql_same.proofs.BareLaws.{expr_at as bare_at, bare_expr}
use Rattle.sql_print.proofs.CanonExprs.{expr_at}
use Rattle.sql_print.proofs.CanonLaws.{print_expr}
use Rattle.sql_print.proofs.AsideClaims.{K1, E1, E2, E3, E4, E5, E6, E7}
use Rattle.sql_print.proofs.AsideNames.{type_kept, plain_fields_kept, element_kept}
use Rattle.sql_print.proofs.AsideParts.{placed, chain_kept, nots_kept, prefixes_kept, exprs_kept, parts_kept, call_kept, whens_kept, maybe_kept, aliased_kept, bindings_kept}

abbrev pub plain1 : Expr-F E1 E2 E3 E4 E5 E6 E7 → Expr-F Expr Primary Term FromItem Joined Query Select
plain1 x = map-Expr E1 E2 E3 E4 E5 E6 E7 Expr Primary Term FromItem Joined Query Select (λ (e : E1). e.0) (λ (e : E2). e.0) (λ (e : E3). e.0) (λ (e : E4). e.0) (λ (e : E5). e.0) (λ (e : E6). e.0) (λ (e : E7). e.0) x

pub expr_kept : (x : Expr-F E1 E2 E3 E4 E5 E6 E7) → expr_at (bare_at as_is (plain1 x)) ≡ expr_at (plain1 x)
expr_kept (ast.Or first rest place) = chain_kept or_level and_level first rest
expr_kept (ast.And first rest place) = chain_kept and_level not_level first rest
expr_kept (ast.Not operators a place) = λ i. at_level not_level (nots_kept operators i ++ placed comparison_level (a.1 i))
expr_kept (ast.Compare left operator operator_place right place) = λ i. at_level comparison_level (placed bit_or_level (left.1 i) ++ comparison_piece operator ∷ placed bit_or_level (right.1 i))
expr_kept (ast.Like left negated operator_place right place) = λ i. at_level comparison_level (placed bit_or_level (left.1 i) ++ not_if negated ++ word r.Like ∷ placed bit_or_level (right.1 i))
expr_kept (ast.LikeList left q operator_place patterns place) = λ i. at_level comparison_level (placed bit_or_level (left.1 i) ++ word r.Like ∷ quantifier_piece q ∷ bracketed (with_commas (exprs_kept patterns i)))
expr_kept (ast.LikeUnnest left q operator_place array place) = λ i. at_level comparison_level (placed bit_or_level (left.1 i) ++ word r.Like ∷ quantifier_piece q ∷ word r.Unnest ∷ bracketed (array.1 i).pieces)
expr_kept (ast.Between subject negated operator_place low high place) = λ i. at_level comparison_level (placed bit_or_level (subject.1 i) ++ not_if negated ++ word r.Between ∷ (placed bit_or_level (low.1 i) ++ word r.And ∷ placed bit_or_level (high.1 i)))
expr_kept (ast.InList left negated operator_place list place) = λ i. at_level comparison_level (placed bit_or_level (left.1 i) ++ not_if negated ++ word r.In ∷ bracketed (with_commas (exprs_kept list i)))
expr_kept (ast.InQuery left negated operator_place query open_place place) = λ i. at_level comparison_level (placed bit_or_level (left.1 i) ++ not_if negated ++ word r.In ∷ bracketed (query.1 i))
expr_kept (ast.InUnnest left negated operator_place array place) = λ i. at_level comparison_level (placed bit_or_level (left.1 i) ++ not_if negated ++ word r.In ∷ word r.Unnest ∷ bracketed (array.1 i).pieces)
expr_kept (ast.Is left negated t operator_place place) = λ i. at_level comparison_level (placed bit_or_level (left.1 i) ++ word r.Is ∷ (not_if negated ++ test_piece t ∷ []))
expr_kept (ast.Distinct left negated operator_place right place) = λ i. at_level comparison_level (placed bit_or_level (left.1 i) ++ word r.Is ∷ (not_if negated ++ word r.Distinct ∷ word r.From ∷ placed bit_or_level (right.1 i)))
expr_kept (ast.BitOr first rest place) = chain_kept bit_or_level bit_xor_level first rest
expr_kept (ast.BitXor first rest place) = chain_kept bit_xor_level bit_and_level first rest
expr_kept (ast.BitAnd first rest place) = chain_kept bit_and_level shift_level first rest
expr_kept (ast.Shift first rest place) = chain_kept shift_level sum_level first rest
expr_kept (ast.Sum first rest place) = chain_kept sum_level product_level first rest
expr_kept (ast.Product first rest place) = chain_kept product_level unary_level first rest
expr_kept (ast.Unary operators a place) = λ i. at_level unary_level (prefixes_kept operators i ++ placed postfix_level (a.1 i))
expr_kept (ast.Postfix first more place) = λ i. at_level postfix_level (placed basic_level (first.1 i) ++ parts_kept more i)
expr_kept (ast.Integer n place) = refl
expr_kept (ast.Text text place) = refl
expr_kept (ast.Bytes bytes place) = refl
expr_kept (ast.Bool value place) = refl
expr_kept (ast.Null place) = refl
expr_kept (ast.Date text place) = refl
expr_kept (ast.Parameter text place) = refl
expr_kept (ast.Name text place) = refl
expr_kept (ast.Call call place) = ap basic (call_kept call)
expr_kept (ast.SafeCall call place) = ap (λ ps. basic (read_word w.Safe ∷ sign s.Dot ∷ ps)) (call_kept call)
expr_kept (ast.Scalar query place) = λ i. basic (bracketed (query.1 i))
expr_kept (ast.Tuple es place) = λ i. basic (bracketed (with_commas (exprs_kept es i)))
expr_kept (ast.Case subject branches otherwise place) = λ i. basic (word r.Case ∷ (maybe_kept (λ ps. ps) subject i ++ whens_kept branches i ++ maybe_kept (λ ps. word r.Else ∷ ps) otherwise i ++ word r.End ∷ []))
expr_kept (ast.Cast safe a type place) = λ i. basic (exprs.cast_word safe ∷ bracketed ((a.1 i).pieces ++ word r.As ∷ type_kept type i))
expr_kept (ast.Extract p a place) = λ i. basic (word r.Extract ∷ bracketed (name p.text ∷ word r.From ∷ (a.1 i).pieces))
expr_kept (ast.Grouping argument place) = λ i. basic (word r.Grouping ∷ bracketed (argument.1 i).pieces)
expr_kept (ast.Exists query place) = λ i. basic (word r.Exists ∷ bracketed (query.1 i))
expr_kept (ast.ArrayQuery query open_place place) = λ i. basic (word r.Array ∷ bracketed (query.1 i))
expr_kept (ast.Array element items open_place place) = λ i. basic (element_kept element i ++ sign s.OpenSquare ∷ (with_commas (exprs_kept items i) ++ sign s.CloseSquare ∷ []))
expr_kept (ast.Struct es place) = λ i. basic (word r.Struct ∷ bracketed (with_commas (aliased_kept es i)))
expr_kept (ast.TypedStruct fields es open_place place) = λ i. basic (word r.Struct ∷ (angled (with_commas (plain_fields_kept fields i)) ++ bracketed (with_commas (exprs_kept es i))))
expr_kept (ast.With bs value place) = λ i. basic (word r.With ∷ bracketed (with_commas (bindings_kept bs i) ++ sign s.Comma ∷ (value.1 i).pieces))

pub expr_rolled : (z : Expr-F Expr Primary Term FromItem Joined Query Select) → expr_at (bare_at as_is z) ≡ expr_at z → K1 (roll-Expr z)
expr_rolled z told =
    print_expr (BareExpr as_is (roll-Expr z)) ∙ ap expr_at (bare_expr as_is (roll-Expr z) ∙ ap (bare_at as_is) (out-roll-Expr z)) ∙ told ∙ sym (print_expr (roll-Expr z) ∙ ap expr_at (out-roll-Expr z))
