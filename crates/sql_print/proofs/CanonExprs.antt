-- The canonical print of an expression, one level at a time: as the prints of its own parts say.
use Rattle.std.proofs.Common.{◌≡◌, true, false, List, [], ◌∷◌, ◌++◌, None, Some, refl, ap}
use Rattle.sql_names.specs.declared.words.Reserved.TheVariants as r
use Rattle.sql_ast.specs.declared.words.Sign.TheVariants as s
use Rattle.sql_ast.specs.declared.words.Word.TheVariants as w
use Rattle.sql_ast.specs.declared.token.Lexeme.TheVariants as l
use Rattle.sql_ast.specs.declared.expr.Expr.{Expr, map-Expr}
use Rattle.sql_ast.specs.declared.query.Primary.{Primary}
use Rattle.sql_ast.specs.declared.query.Term.{Term}
use Rattle.sql_ast.specs.declared.query.FromItem.{FromItem}
use Rattle.sql_ast.specs.declared.query.Joined.{Joined}
use Rattle.sql_ast.specs.declared.query.Query.{Query}
use Rattle.sql_ast.specs.declared.query.Select.{Select}
use Rattle.sql_ast.specs.declared.expr.Expr.TheOpen.{Expr-F}
use Rattle.sql_ast.specs.declared.expr.Expr.TheOpen as ast
use Rattle.sql_ast.specs.Pieces.{Piece, spaced, word, name, read_word, sign, bracketed, with_commas, if_there}
use Rattle.sql_ast.specs.Canon as canon
use Rattle.sql_ast.specs.Canon.{Print, at_level, basic, or_level, and_level, not_level, comparison_level, bit_or_level, bit_xor_level, bit_and_level, shift_level, sum_level, product_level, unary_level, postfix_level, canon_expr, canon_pieces}
use Rattle.sql_print.specs.PartPieces as parts
use Rattle.sql_print.specs.PartPieces.{listed}
use Rattle.sql_print.specs.ExprPieces as exprs
use Rattle.sql_print.specs.TreePieces.{expr_level, expr_pieces, primary_pieces, term_pieces, from_pieces, joined_pieces, select_pieces}
use Rattle.sql_print.proofs.CanonParts.{own, chain, all_parts, a_call, whens, maybe, maybe_worded, aliased, bindings}

abbrev pub expr_at : Expr-F Expr Primary Term FromItem Joined Query Select → Print
expr_at (ast.Or first rest place) = at_level or_level (exprs.chain_pieces expr_level expr_pieces and_level first rest)
expr_at (ast.And first rest place) = at_level and_level (exprs.chain_pieces expr_level expr_pieces not_level first rest)
expr_at (ast.Not operators e place) = at_level not_level (exprs.not_pieces expr_level expr_pieces operators e)
expr_at (ast.Compare left operator operator_place right place) = at_level comparison_level (exprs.compare_pieces expr_level expr_pieces left operator right)
expr_at (ast.Like left negated operator_place right place) = at_level comparison_level (exprs.like_pieces expr_level expr_pieces left negated right)
expr_at (ast.LikeList left q operator_place patterns place) = at_level comparison_level (exprs.like_list_pieces expr_level expr_pieces (listed expr_pieces) left q patterns)
expr_at (ast.LikeUnnest left q operator_place array place) = at_level comparison_level (exprs.like_unnest_pieces expr_level expr_pieces left q array)
expr_at (ast.Between subject negated operator_place low high place) = at_level comparison_level (exprs.between_pieces expr_level expr_pieces subject negated low high)
expr_at (ast.InList left negated operator_place list place) = at_level comparison_level (exprs.in_pieces expr_level expr_pieces (listed expr_pieces) left negated list)
expr_at (ast.InQuery left negated operator_place query open_place place) = at_level comparison_level (exprs.in_pieces expr_level expr_pieces canon_pieces left negated query)
expr_at (ast.InUnnest left negated operator_place array place) = at_level comparison_level (exprs.in_unnest_pieces expr_level expr_pieces left negated array)
expr_at (ast.Is left negated t operator_place place) = at_level comparison_level (exprs.is_pieces expr_level expr_pieces left negated t)
expr_at (ast.Distinct left negated operator_place right place) = at_level comparison_level (exprs.distinct_pieces expr_level expr_pieces left negated right)
expr_at (ast.BitOr first rest place) = at_level bit_or_level (exprs.chain_pieces expr_level expr_pieces bit_xor_level first rest)
expr_at (ast.BitXor first rest place) = at_level bit_xor_level (exprs.chain_pieces expr_level expr_pieces bit_and_level first rest)
expr_at (ast.BitAnd first rest place) = at_level bit_and_level (exprs.chain_pieces expr_level expr_pieces shift_level first rest)
expr_at (ast.Shift first rest place) = at_level shift_level (exprs.chain_pieces expr_level expr_pieces sum_level first rest)
expr_at (ast.Sum first rest place) = at_level sum_level (exprs.chain_pieces expr_level expr_pieces product_level first rest)
expr_at (ast.Product first rest place) = at_level product_level (exprs.chain_pieces expr_level expr_pieces unary_level first rest)
expr_at (ast.Unary operators e place) = at_level unary_level (exprs.unary_pieces expr_level expr_pieces operators e)
expr_at (ast.Postfix first more place) = at_level postfix_level (exprs.postfix_pieces expr_level expr_pieces first more)
expr_at (ast.Integer n place) = basic (spaced (l.Integer n) ∷ [])
expr_at (ast.Text text place) = basic (spaced (l.Text text) ∷ [])
expr_at (ast.Bytes bytes place) = basic (spaced (l.Bytes bytes) ∷ [])
expr_at (ast.Bool value place) = basic (exprs.truth_word value ∷ [])
expr_at (ast.Null place) = basic (word r.Null ∷ [])
expr_at (ast.Date text place) = basic (exprs.date_pieces text)
expr_at (ast.Parameter text place) = basic (spaced (l.Parameter text) ∷ [])
expr_at (ast.Name text place) = basic (name text ∷ [])
expr_at (ast.Call call place) = basic (parts.call_pieces expr_pieces call)
expr_at (ast.SafeCall call place) = basic (exprs.safe_pieces expr_pieces call)
expr_at (ast.Scalar query place) = basic (bracketed (canon_pieces query))
expr_at (ast.Tuple es place) = basic (bracketed (listed expr_pieces es))
expr_at (ast.Case subject branches otherwise place) = basic (exprs.case_pieces expr_pieces expr_pieces subject branches otherwise)
expr_at (ast.Cast safe e type place) = basic (exprs.cast_pieces expr_pieces safe e type)
expr_at (ast.Extract p e place) = basic (exprs.extract_pieces expr_pieces p e)
expr_at (ast.Grouping argument place) = basic (exprs.worded expr_pieces r.Grouping argument)
expr_at (ast.Exists query place) = basic (exprs.worded canon_pieces r.Exists query)
expr_at (ast.ArrayQuery query open_place place) = basic (exprs.worded canon_pieces r.Array query)
expr_at (ast.Array element items open_place place) = basic (exprs.array_pieces expr_pieces element items)
expr_at (ast.Struct es place) = basic (exprs.worded (listed (parts.aliased_pieces expr_pieces)) r.Struct es)
expr_at (ast.TypedStruct fields es open_place place) = basic (exprs.typed_struct_pieces expr_pieces fields es)
expr_at (ast.With bs value place) = basic (exprs.with_pieces expr_pieces expr_pieces bs value)

-- a level of an expression over the prints of its parts
abbrev printed_expr : Expr-F Expr Primary Term FromItem Joined Query Select → Print
printed_expr x = canon.expr_print (map-Expr Expr Primary Term FromItem Joined Query Select Print (List Piece) (List Piece) (List Piece) (List Piece) (List Piece) (List Piece) canon_expr primary_pieces term_pieces from_pieces joined_pieces canon_pieces select_pieces x)

pub expr_moved : (x : Expr-F Expr Primary Term FromItem Joined Query Select) → printed_expr x ≡ expr_at x
expr_moved (ast.Or first rest place) = chain or_level and_level first rest
expr_moved (ast.And first rest place) = chain and_level not_level first rest
expr_moved (ast.Not operators e place) = refl
expr_moved (ast.Compare left operator operator_place right place) = refl
expr_moved (ast.Like left negated operator_place right place) = refl
expr_moved (ast.LikeList left q operator_place patterns place) =
    ap (λ ps. at_level comparison_level (exprs.like_list_pieces expr_level expr_pieces (λ (inside : List Piece). inside) left q ps)) (own patterns)
expr_moved (ast.LikeUnnest left q operator_place array place) = refl
expr_moved (ast.Between subject negated operator_place low high place) = refl
expr_moved (ast.InList left negated operator_place list place) =
    ap (λ ps. at_level comparison_level (exprs.in_pieces expr_level expr_pieces (λ (inside : List Piece). inside) left negated ps)) (own list)
expr_moved (ast.InQuery left negated operator_place query open_place place) = refl
expr_moved (ast.InUnnest left negated operator_place array place) = refl
expr_moved (ast.Is left negated t operator_place place) = refl
expr_moved (ast.Distinct left negated operator_place right place) = refl
expr_moved (ast.BitOr first rest place) = chain bit_or_level bit_xor_level first rest
expr_moved (ast.BitXor first rest place) = chain bit_xor_level bit_and_level first rest
expr_moved (ast.BitAnd first rest place) = chain bit_and_level shift_level first rest
expr_moved (ast.Shift first rest place) = chain shift_level sum_level first rest
expr_moved (ast.Sum first rest place) = chain sum_level product_level first rest
expr_moved (ast.Product first rest place) = chain product_level unary_level first rest
expr_moved (ast.Unary operators e place) = refl
expr_moved (ast.Postfix first more place) = ap (λ ps. at_level postfix_level (parts.operand expr_level expr_pieces canon.basic_level first ++ ps)) (all_parts more)
expr_moved (ast.Integer n place) = refl
expr_moved (ast.Text text place) = refl
expr_moved (ast.Bytes bytes place) = refl
expr_moved (ast.Bool true place) = refl
expr_moved (ast.Bool false place) = refl
expr_moved (ast.Null place) = refl
expr_moved (ast.Date text place) = refl
expr_moved (ast.Parameter text place) = refl
expr_moved (ast.Name text place) = refl
expr_moved (ast.Call call place) = ap basic (a_call call)
expr_moved (ast.SafeCall call place) = ap (λ ps. basic (read_word w.Safe ∷ sign s.Dot ∷ ps)) (a_call call)
expr_moved (ast.Scalar query place) = refl
expr_moved (ast.Tuple es place) = ap (λ ps. basic (bracketed ps)) (own es)
expr_moved (ast.Case subject branches otherwise place) =
    rw (maybe subject) (rw (maybe_worded (λ ps. word r.Else ∷ ps) otherwise) (ap (λ ps. basic (word r.Case ∷ (if_there expr_pieces subject ++ ps ++ exprs.else_pieces expr_pieces otherwise ++ word r.End ∷ []))) (whens branches)))
expr_moved (ast.Cast true e type place) = refl
expr_moved (ast.Cast false e type place) = refl
expr_moved (ast.Extract p e place) = refl
expr_moved (ast.Grouping argument place) = refl
expr_moved (ast.Exists query place) = refl
expr_moved (ast.ArrayQuery query open_place place) = refl
expr_moved (ast.Array None items open_place place) = ap (λ ps. basic (sign s.OpenSquare ∷ (ps ++ sign s.CloseSquare ∷ []))) (own items)
expr_moved (ast.Array (Some type) items open_place place) =
    ap (λ ps. basic (word r.Array ∷ (canon.angled (canon.type_pieces type) ++ sign s.OpenSquare ∷ (ps ++ sign s.CloseSquare ∷ [])))) (own items)
expr_moved (ast.Struct es place) = ap (λ ps. basic (word r.Struct ∷ bracketed (with_commas ps))) (aliased es)
expr_moved (ast.TypedStruct fields es open_place place) =
    ap (λ ps. basic (word r.Struct ∷ (canon.angled (listed (parts.field_pieces canon.type_pieces) fields) ++ bracketed ps))) (own es)
expr_moved (ast.With bs value place) = ap (λ ps. basic (word r.With ∷ bracketed (with_commas ps ++ sign s.Comma ∷ expr_pieces value))) (bindings bs)
