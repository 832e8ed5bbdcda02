-- The depth of each sort of tree.
use Rattle.std.specs.Prelude.{ℕ}
use Rattle.sql_ast.specs.declared.expr.Expr.{Expr}
use Rattle.sql_ast.specs.declared.query.Primary.{Primary, fold-Primary}
use Rattle.sql_ast.specs.declared.query.Term.{Term, fold-Term}
use Rattle.sql_ast.specs.declared.query.FromItem.{FromItem, fold-FromItem}
use Rattle.sql_ast.specs.declared.query.Joined.{Joined, fold-Joined}
use Rattle.sql_ast.specs.declared.query.Select.{Select, fold-Select}
use Rattle.sql_ast.specs.Depths.{expr_depth, primary_depth, term_depth, from_depth, joined_depth, query_depth, select_depth}

unfoldable pub PrimaryDepth : Primary → ℕ
PrimaryDepth = fold-Primary ℕ ℕ ℕ ℕ ℕ ℕ ℕ expr_depth primary_depth term_depth from_depth joined_depth query_depth select_depth

unfoldable pub TermDepth : Term → ℕ
TermDepth = fold-Term ℕ ℕ ℕ ℕ ℕ ℕ ℕ expr_depth primary_depth term_depth from_depth joined_depth query_depth select_depth

unfoldable pub FromDepth : FromItem → ℕ
FromDepth = fold-FromItem ℕ ℕ ℕ ℕ ℕ ℕ ℕ expr_depth primary_depth term_depth from_depth joined_depth query_depth select_depth

unfoldable pub JoinedDepth : Joined → ℕ
JoinedDepth = fold-Joined ℕ ℕ ℕ ℕ ℕ ℕ ℕ expr_depth primary_depth term_depth from_depth joined_depth query_depth select_depth

unfoldable pub SelectDepth : Select → ℕ
SelectDepth = fold-Select ℕ ℕ ℕ ℕ ℕ ℕ ℕ expr_depth primary_depth term_depth from_depth joined_depth query_depth select_depth
