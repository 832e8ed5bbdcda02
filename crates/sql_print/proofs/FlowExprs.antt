-- An expression's print is a run of tokens that are read back, if what its brackets hold is.
use Rattle.std.proofs.Common.{ℕ, suc}
use Rattle.sql_ast.specs.declared.expr.Expr.{Expr}
use Rattle.sql_ast.specs.Marks.{Tokens}
use Rattle.sql_ast.specs.Grammar.{ExprOf, PostfixOf}
use Rattle.sql_print.specs.TreePieces.{expr_pieces}
use Rattle.sql_print.proofs.Flows.{Flow}
use Rattle.sql_print.proofs.Held.{Held, Inner}
use Rattle.sql_print.proofs.FlowChains.{prod_flow, sum_flow, shift_flow, band_flow, bxor_flow, bor_flow, conj_flow, expr_flow}
use Rattle.sql_print.proofs.FlowComparisons.{neg_flow}
use Rattle.sql_print.proofs.FlowPostfixes.{postfix_flow, unary_flow}
use Rattle.sql_print.proofs.FlowBasics.{flow_basic}

module _ (size : ℕ) (inner : Inner size) where
  pub flow_postfix : (a : Expr) (u : Tokens) → PostfixOf a u → Held (suc size) u → Flow (expr_pieces a)
  flow_postfix = postfix_flow size inner (flow_basic size inner)

  pub flow_expr : (a : Expr) (u : Tokens) → ExprOf a u → Held (suc size) u → Flow (expr_pieces a)
  flow_expr =
      expr_flow (suc size) (conj_flow (suc size) (neg_flow size inner (bor_flow (suc size) (bxor_flow (suc size) (band_flow (suc size) (shift_flow (suc size) (sum_flow (suc size) (prod_flow (suc size)
      (unary_flow size inner (flow_basic size inner))))))))))
