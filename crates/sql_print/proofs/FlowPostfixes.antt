-- The prints of signed and of followed expressions are runs of tokens that are read back, if those of basic ones and what brackets hold are.
use Rattle.std.proofs.Common.{ℕ, suc, List, [], ◌∷◌, refl}
use Rattle.sql_ast.specs.declared.words.Sign.TheVariants as s
use Rattle.sql_ast.specs.declared.expr.Expr.{Expr}
use Rattle.sql_ast.specs.declared.expr.Expr.TheVariants as e
use Rattle.sql_ast.specs.declared.expr.Part.{Part}
use Rattle.sql_ast.specs.Marks.{Tokens}
use Rattle.sql_ast.specs.Trees.{name_at, prefixes, path}
use Rattle.sql_ast.specs.Grammar.{UnaryOf, unary_is, PostfixOf, postfix_is, PartsOf, parts_none, parts_more, PartOf, part_field, part_index, BasicOf}
use Rattle.sql_ast.specs.Pieces.{name, close_sign}
use Rattle.sql_print.specs.PartPieces.{run, part_pieces}
use Rattle.sql_print.specs.TreePieces.{expr_pieces}
use Rattle.sql_print.proofs.Flows.{Flow, flow_none, beside, single}
use Rattle.sql_print.proofs.FlowParts.{in_brackets, dotted, the_name}
use Rattle.sql_print.proofs.Held.{Held, hd, tl, fr, bk, inside, Inner}
use Rattle.sql_print.proofs.FlowWords.{flow_form, flow_prefixes}
use Rattle.sql_print.proofs.FlowNodes.{as_expr, op}

module _ (size : ℕ) (inner : Inner size) (basics : (a : Expr) (u : Tokens) → BasicOf a u → Held (suc size) u → Flow (expr_pieces a)) where
  flow_part : (p : Part Expr) (u : Tokens) → PartOf p u → Held (suc size) u → Flow (part_pieces expr_pieces p)
  flow_part _ _ (part_field {n = n} i j) g = dotted (name (name_at n).text) [] refl (the_name n j (hd (tl g)))
  flow_part _ _ (part_index {f = f} {c = qc} {d = qd} i j k z c d) g = beside {ps = close_sign s.OpenSquare ∷ []} (single (tt, tt) refl refl) (beside (flow_form f) (beside (in_brackets (inner.expr _ _ z (fr (qc ∷ (qd ∷ [])) (tl (tl (inside g)))))) (single (tt, tt) refl refl)))

  flow_parts : (ps : List (Part Expr)) (u : Tokens) → PartsOf ps u → Held (suc size) u → Flow (run (part_pieces expr_pieces) ps)
  flow_parts _ _ parts_none g = flow_none
  flow_parts _ _ (parts_more {u = qu} {v = qv} z y) g = beside (flow_part _ _ z (fr qv g)) (flow_parts _ _ y (bk qu g))

  pub postfix_flow : (a : Expr) (u : Tokens) → PostfixOf a u → Held (suc size) u → Flow (expr_pieces a)
  unfolding path
  postfix_flow _ _ (postfix_is {ps = []} {v = qv} z y) g = basics _ _ z (fr qv g)
  postfix_flow _ _ (postfix_is {ps = p ∷ ps} {u = qu} {v = qv} z y) g = as_expr _ _ (e.outs-Postfix _ _ _) (beside (op 12 _ (basics _ _ z (fr qv g))) (flow_parts _ _ y (bk qu g)))

  pub unary_flow : (a : Expr) (u : Tokens) → UnaryOf a u → Held (suc size) u → Flow (expr_pieces a)
  unfolding prefixes
  unary_flow _ _ (unary_is {ps = []} {u = qu} z y) g = postfix_flow _ _ y (bk qu g)
  unary_flow _ _ (unary_is {ps = p ∷ ps} {u = qu} z y) g = as_expr _ _ (e.outs-Unary _ _ _) (beside (flow_prefixes (p ∷ ps)) (op 11 _ (postfix_flow _ _ y (bk qu g))))
