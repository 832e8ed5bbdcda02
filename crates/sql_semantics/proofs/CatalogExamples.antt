-- Worked examples of typing over a catalog with a function, and of a form that isn't built.
use Rattle.std.proofs.Common.{◌≡◌, ℕ, true, false, List, [], ◌∷◌, codes, Option, None, Ok, Err}
use Rattle.sql_types.specs.declared.sql_type.SqlType.TheVariants as ty
use Rattle.sql_ast.specs.declared.clauses.Sort.{Sort}
use Rattle.sql_ast.specs.declared.clauses.LimitPart.{LimitPart}
use Rattle.sql_ast.specs.declared.expr.Expr.{Expr}
use Rattle.sql_ast.specs.declared.expr.Expr.TheVariants as e
use Rattle.sql_ast.specs.declared.expr.Operator.TheVariants as operator
use Rattle.sql_ast.specs.declared.query.Cte.{Cte}
use Rattle.sql_ast.specs.declared.query.Query.{Query, roll-Query, out-roll-Query}
use Rattle.sql_ast.specs.declared.query.Term.{Term}
use Rattle.sql_catalog.specs.declared.entries.Definition.TheVariants.{Function}
use Rattle.sql_catalog.specs.declared.entries.Entries.{Entries}
use Rattle.sql_catalog.specs.declared.entries.Written.TheVariants as written
use Rattle.sql_rules.specs.Scopes.{found}
use Rattle.sql_semantics.specs.Unbuilt.{unbuilt_query, unbuilt_expr}
use Rattle.sql_semantics.specs.Types.{TypeText, body_type}
use Rattle.sql_semantics.proofs.Trees.{sum, call, plain, select_only}
use Rattle.sql_semantics.proofs.SmallCatalog.{three_tables, unnamed, table_t, table_e, table_p}
use Rattle.sql_semantics.proofs.UnbuiltLaws.{unbuilt-query, unbuilt-expr}
use Rattle.sql_semantics.proofs.Computing.{trees, types, values, opens, typing, answer, text_refused}
use Rattle.sql_semantics.proofs.ChoiceExamples.{plus_column, plus_text}

-- ---- a query with ORDER BY isn't built

abbrev ordered : List (Cte Query) → Term → Sort Expr → List (Sort Expr) → Option (LimitPart Expr) → ℕ → Query
ordered ctes first sort order limit place = roll-Query (record { ctes = ctes; body = record { first = first; rest = []; place = place }; order = sort ∷ order; limit = limit; place = place })

holds_order : (ctes : List (Cte Query)) (first : Term) (sort : Sort Expr) (order : List (Sort Expr)) (limit : Option (LimitPart Expr)) (place : ℕ) → unbuilt_query (ordered ctes first sort order limit place) ≡ true
holds_order ctes first sort order limit place = simp (unbuilt-query, out-roll-Query)

not_built : (ctes : List (Cte Query)) (first : Term) (sort : Sort Expr) (order : List (Sort Expr)) (limit : Option (LimitPart Expr)) (place : ℕ) → TypeText three_tables (ordered ctes first sort order limit place) ≡ Err (2, 0)
not_built ctes first sort order limit place = text_refused three_tables (ordered ctes first sort order limit place) (holds_order ctes first sort order limit place)

-- ---- a function of an argument of ANY TYPE: `g(x)` is `x + 1`

abbrev body_of_g : Expr
body_of_g = sum 0 (e.Name (codes "x") 0) 2 (e.Integer 1 4)

abbrev with_g : Entries
with_g = record {
  tables = table_t ∷ table_e ∷ table_p ∷ [];
  definitions = Function (record { name = codes "g"; arguments = record { name = codes "x"; ty = None } ∷ []; body = written.Tree body_of_g; measures = record { weight = 4; depth = 3; sets = 0 } }) ∷ [];
  params = [];
}

body_built : unbuilt_expr body_of_g ≡ false
body_built = simp (unbuilt-expr, trees)

-- `SELECT g(1)`
typed_per_call : answer with_g (select_only 0 (plain (call (codes "g") (e.Integer 1 9 ∷ []) 7) 7 ∷ [])) ≡ Ok (unnamed ty.Int64 ∷ [])
unfolding found
typed_per_call = simp (body_type, body_built, plus_column, typing, trees, opens, types, values)

-- `SELECT g('a')`: the body has no type with this argument
refused_per_call : answer with_g (select_only 0 (plain (call (codes "g") (e.Text (codes "a") 9 ∷ []) 7) 7 ∷ [])) ≡ Err (24, 7)
unfolding found
refused_per_call = simp (body_type, body_built, plus_text, typing, trees, opens, types, values)

-- `SELECT g('a' || nosuch)`: an argument comes before the body
argument_first : answer with_g (select_only 0 (plain (call (codes "g") (e.Product (e.Text (codes "a") 9) (record { operator = operator.Concat; operand = e.Name (codes "nosuch") 16; place = 13 } ∷ []) 9 ∷ []) 7) 7 ∷ [])) ≡ Err (3, 16)
unfolding found
argument_first = simp (typing, trees)
