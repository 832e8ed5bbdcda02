-- What a chain of operators makes, in the words of the grammar.
use Rattle.std.specs.Prelude.{ℕ, List}
use Rattle.sql_ast.specs.declared.expr.Expr.{Expr}
use Rattle.sql_ast.specs.declared.expr.Expr.TheVariants as e
use Rattle.sql_ast.specs.declared.expr.Link.{Link}
use Rattle.parse_expr.specs.declared.chains.Operation.{Operation}
use Rattle.parse_expr.specs.declared.chains.Operation.TheVariants as o

abbrev pub made : Operation → Expr → List (Link Expr) → ℕ → Expr
made o.Or = e.Or
made o.And = e.And
made o.BitOr = e.BitOr
made o.BitXor = e.BitXor
made o.BitAnd = e.BitAnd
made o.Shift = e.Shift
made o.Sum = e.Sum
made o.Product = e.Product
