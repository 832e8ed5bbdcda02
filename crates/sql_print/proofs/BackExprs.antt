-- An expression is spelled by the tokens of its print, if what its brackets hold is.
use Rattle.std.proofs.Common.{ℕ, suc, ◌<◌, length}
use Rattle.sql_ast.specs.declared.expr.Expr.{Expr}
use Rattle.sql_ast.specs.Marks.{Tokens}
use Rattle.sql_ast.specs.Grammar.{ExprOf, PostfixOf}
use Rattle.sql_print.proofs.BackLevels.{Spelled}
use Rattle.sql_print.proofs.BackChains.{prod_spelled, sum_spelled, band_spelled, bxor_spelled, bor_spelled, conj_spelled, expr_spelled}
use Rattle.sql_print.proofs.BackShifts.{shift_spelled}
use Rattle.sql_print.proofs.BackLists.{Inner}
use Rattle.sql_print.proofs.BackComparisons.{neg_spelled}
use Rattle.sql_print.proofs.BackPostfixes.{postfix_spelled, unary_spelled}
use Rattle.sql_print.proofs.BackBasics.{basic_spelled}

module _ (n : ℕ) (x : Inner n) where
  pub postfix_back : (a : Expr) (u : Tokens) → PostfixOf a u → length u < suc n → Spelled a
  postfix_back = postfix_spelled n x (basic_spelled n x)

  pub expr_back : (a : Expr) (u : Tokens) → ExprOf a u → length u < suc n → Spelled a
  expr_back =
      expr_spelled (suc n) (conj_spelled (suc n) (neg_spelled n x (bor_spelled (suc n) (bxor_spelled (suc n) (band_spelled (suc n) (shift_spelled (suc n) (sum_spelled (suc n) (prod_spelled (suc n)
      (unary_spelled n x (basic_spelled n x))))))))))
