-- The readers of all depths: each `(`, `[`, word or comma before an expression or a query takes one.
use Rattle.std.specs.Prelude.{ℕ, zero, suc}
use Rattle.fronts.specs.Readers.{◌>>=◌, ◌>>◌, pure, exhausted, token, if_comes}
use Rattle.sql_ast.specs.declared.words.Sign.TheVariants as s
use Rattle.sql_ast.specs.declared.expr.Expr.{Expr}
use Rattle.sql_ast.specs.declared.query.Query.{Query}
use Rattle.sql_ast.specs.declared.type_spelling.TypeSpelling.{TypeSpelling}
use Rattle.sql_ast.specs.Marks.{sign}
use Rattle.sql_grammar.specs.Ways.{Parser}
use Rattle.sql_grammar.specs.Words.{whole_type}
use Rattle.sql_grammar.specs.Exprs.{Below, disjunction, expr_after}
use Rattle.sql_grammar.specs.Queries.{query_whole, query_more}

unfoldable pub below : ℕ → Below
below zero = record { inner = exhausted; query = exhausted; more = λ o. exhausted; rest = λ p a. exhausted }
below (suc n) = record { inner = disjunction n (below n); query = query_whole n (below n); more = query_more n (below n); rest = expr_after n (below n) }

abbrev pub expr_at : ℕ → Parser Expr
expr_at n = (below n).inner

abbrev pub query_at : ℕ → Parser Query
query_at n = (below n).query

-- query [";"]
unfoldable pub text_at : ℕ → Parser Query
text_at n = do
  q ← query_at n
  if_comes (sign s.Semicolon) (do token (sign s.Semicolon); pure q) (pure q)

-- a type that is all of a text, or a part of it
abbrev pub written_type_at : ℕ → Parser TypeSpelling
written_type_at n = whole_type n
