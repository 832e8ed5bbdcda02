-- The query that is asked for, and the expression: from its first token on, or behind what was read of it.
use Rattle.std.specs.Prelude.{ℕ}
use Rattle.sql_ast.specs.declared.expr.Expr.{Expr}
use Rattle.sql_ast.specs.declared.query.Query.{Query}
use Rattle.sql_grammar.specs.Ways.{Parser}
use Rattle.sql_grammar.specs.Exprs as g
use Rattle.sql_grammar.specs.Exprs.{Below, disjunction, expr_after}
use Rattle.sql_grammar.specs.Queries.{query_whole, query_more}
use Rattle.parse_expr.specs.declared.starts.Opening.{Opening}
use Rattle.parse_expr.specs.declared.starts.Opening.TheVariants as opening
use Rattle.parse_expr.specs.declared.starts.Start.{Start}
use Rattle.parse_expr.specs.declared.starts.Start.TheVariants as start

abbrev pub asked : ℕ → Below → Opening → Parser Query
asked turns below opening.Fresh = query_whole turns below
asked turns below (opening.With t) = query_more turns below (g.with_read t)
asked turns below (opening.Term a place) = query_more turns below (g.term_read a place)

abbrev pub asked_expr : ℕ → Below → Start → Parser Expr
asked_expr turns below start.Fresh = disjunction turns below
asked_expr turns below (start.Behind place a) = expr_after turns below place a
