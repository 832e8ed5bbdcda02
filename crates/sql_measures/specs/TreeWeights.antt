-- The weight of each sort of tree.
use Rattle.std.specs.Prelude.{ℕ}
use Rattle.sql_ast.specs.declared.expr.Expr.{Expr}
use Rattle.sql_ast.specs.declared.query.Primary.{Primary, fold-Primary}
use Rattle.sql_ast.specs.declared.query.Term.{Term, fold-Term}
use Rattle.sql_ast.specs.declared.query.FromItem.{FromItem, fold-FromItem}
use Rattle.sql_ast.specs.declared.query.Joined.{Joined, fold-Joined}
use Rattle.sql_ast.specs.declared.query.Select.{Select, fold-Select}
use Rattle.sql_ast.specs.Weights.{expr_weight, primary_weight, term_weight, from_weight, joined_weight, query_weight, select_weight}

unfoldable pub PrimaryWeight : Primary → ℕ
PrimaryWeight = fold-Primary ℕ ℕ ℕ ℕ ℕ ℕ ℕ expr_weight primary_weight term_weight from_weight joined_weight query_weight select_weight

unfoldable pub TermWeight : Term → ℕ
TermWeight = fold-Term ℕ ℕ ℕ ℕ ℕ ℕ ℕ expr_weight primary_weight term_weight from_weight joined_weight query_weight select_weight

unfoldable pub FromWeight : FromItem → ℕ
FromWeight = fold-FromItem ℕ ℕ ℕ ℕ ℕ ℕ ℕ expr_weight primary_weight term_weight from_weight joined_weight query_weight select_weight

unfoldable pub JoinedWeight : Joined → ℕ
JoinedWeight = fold-Joined ℕ ℕ ℕ ℕ ℕ ℕ ℕ expr_weight primary_weight term_weight from_weight joined_weight query_weight select_weight

unfoldable pub SelectWeight : Select → ℕ
SelectWeight = fold-Select ℕ ℕ ℕ ℕ ℕ ℕ ℕ expr_weight primary_weight term_weight from_weight joined_weight query_weight select_weight
