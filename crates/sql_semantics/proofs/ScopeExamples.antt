-- Worked examples of scopes: which names a place sees.
use Rattle.std.proofs.Common.{◌≡◌, true, [], ◌∷◌, codes, None, Some, Ok, Err}
use Rattle.sql_types.specs.declared.sql_type.SqlType.TheVariants as ty
use Rattle.sql_ast.specs.declared.expr.Expr.TheVariants as e
use Rattle.sql_ast.specs.declared.query.JoinWord.TheVariants as join
use Rattle.sql_ast.specs.declared.query.Primary.TheVariants as primary
use Rattle.sql_ast.specs.declared.query.Query.{Query}
use Rattle.sql_rules.specs.Scopes.{found}
use Rattle.sql_semantics.proofs.Trees.{named, sum, equals, field, plain, as_name, column, star, select, select_from, select_only, from_items, only, table, table_as, subquery, subquery_as, comma, join_using, join_on}
use Rattle.sql_semantics.proofs.SmallCatalog.{three_tables, column_of, unnamed}
use Rattle.sql_semantics.proofs.Computing.{trees, types, values, opens, typing, answer}
use Rattle.sql_semantics.proofs.ChoiceExamples.{equal_column, plus_columns, plus_column}

-- `SELECT (SELECT u.n FROM t AS u) FROM p AS u`: an inner name never falls back to the outer one
abbrev inner_hides_text : Query
inner_hides_text = select_from 0 (plain (e.Scalar (select_from 8 (plain (field 15 (e.Name (codes "u") 15) (codes "n") 17) 15 ∷ []) (only 24 (table_as (codes "t") 24 (codes "u") 29))) 7) 7 ∷ []) (only 37 (table_as (codes "p") 37 (codes "u") 42))

inner_hides : answer three_tables inner_hides_text ≡ Err (6, 15)
unfolding found
inner_hides = simp (typing, trees, opens, types, values)

-- `SELECT (SELECT n FROM t) FROM p`: a name that the inner query lacks is looked up in the outer one
abbrev outer_seen_text : Query
outer_seen_text = select_from 0 (plain (e.Scalar (select_from 8 (column (codes "n") 15 ∷ []) (only 22 (table (codes "t") 22))) 7) 7 ∷ []) (only 30 (table (codes "p") 30))

outer_seen : answer three_tables outer_seen_text ≡ Ok (unnamed ty.Int64 ∷ [])
unfolding found
outer_seen = simp (typing, trees, opens, types, values)

-- `SELECT 1 FROM t, (SELECT t.b AS q) AS s`: a subquery in FROM does not see its siblings
abbrev siblings_text : Query
siblings_text = select_from 0 (plain (e.Integer 1 7) 7 ∷ []) (from_items 14 (table (codes "t") 14) ((comma 15 (subquery_as (select_only 18 (as_name (field 25 (e.Name (codes "t") 25) (codes "b") 27) 25 (codes "q") 32 ∷ [])) 17 (codes "s") 38)) ∷ []))

siblings : answer three_tables siblings_text ≡ Err (3, 25)
unfolding found
siblings = simp (typing, trees, opens, types, values)

-- `SELECT u FROM UNNEST([1]) AS u, UNNEST([2]) AS u`
abbrev two_elements_text : Query
two_elements_text = select_from 0 (column (codes "u") 7 ∷ []) (from_items 14 (primary.Unnest (e.Array None (e.Integer 1 22 ∷ []) 21 21) (Some (named (codes "u") 29)) None 14) ((comma 30 (primary.Unnest (e.Array None (e.Integer 2 40 ∷ []) 39 39) (Some (named (codes "u") 47)) None 32)) ∷ []))

two_elements : answer three_tables two_elements_text ≡ Err (4, 7)
unfolding found
two_elements = simp (typing, trees, opens, types, values)

-- `SELECT 1 FROM (SELECT [1] AS r) AS s RIGHT JOIN s.r AS v ON TRUE`: the right item of a RIGHT JOIN does not see the left ones
abbrev right_of_right_text : Query
right_of_right_text = select_from 0 (plain (e.Integer 1 7) 7 ∷ []) (from_items 14 (subquery_as (select_only 15 (as_name (e.Array None ((e.Integer 1 23) ∷ []) 22 22) 22 (codes "r") 29 ∷ [])) 14 (codes "s") 35) ((join_on join.Right 37 (primary.Path (named (codes "s") 48 ∷ named (codes "r") 50 ∷ []) (Some (named (codes "v") 55)) None 48) (e.Bool true 60) 57) ∷ []))

right_of_right : answer three_tables right_of_right_text ≡ Err (5, 48)
unfolding found
right_of_right = simp (typing, trees, opens, types, values)

-- `SELECT v FROM (SELECT [1] AS r) AS s JOIN s.r AS v ON TRUE`
abbrev path_seen_text : Query
path_seen_text = select_from 0 (column (codes "v") 7 ∷ []) (from_items 14 (subquery_as (select_only 15 (as_name (e.Array None ((e.Integer 1 23) ∷ []) 22 22) 22 (codes "r") 29 ∷ [])) 14 (codes "s") 35) ((join_on join.Inner 37 (primary.Path (named (codes "s") 42 ∷ named (codes "r") 44 ∷ []) (Some (named (codes "v") 49)) None 42) (e.Bool true 54) 51) ∷ []))

path_seen : answer three_tables path_seen_text ≡ Ok (column_of (codes "v") ty.Int64 ∷ [])
unfolding found
path_seen = simp (typing, trees, opens, types, values)

-- `SELECT 1 FROM UNNEST([STRUCT([1] AS r)]) AS s, s.r`: the alias of UNNEST is no range variable
abbrev no_range_text : Query
no_range_text = select_from 0 (plain (e.Integer 1 7) 7 ∷ []) (from_items 14 (primary.Unnest (e.Array None (e.Struct (record { expr = e.Array None ((e.Integer 1 30) ∷ []) 29 29; alias = Some (named (codes "r") 36) } ∷ []) 22 ∷ []) 21 21) (Some (named (codes "s") 44)) None 14) ((comma 45 (primary.Path (named (codes "s") 47 ∷ named (codes "r") 49 ∷ []) None None 47)) ∷ []))

no_range : answer three_tables no_range_text ≡ Err (5, 47)
unfolding found
no_range = simp (typing, trees, opens, types, values)

-- `SELECT r FROM (SELECT [1, 2] AS r) AS s, s.r`: a path without an alias has its last name
abbrev path_alias_text : Query
path_alias_text = select_from 0 (column (codes "r") 7 ∷ []) (from_items 14 (subquery_as (select_only 15 (as_name (e.Array None ((e.Integer 1 23) ∷ (e.Integer 2 26) ∷ []) 22 22) 22 (codes "r") 32 ∷ [])) 14 (codes "s") 38) ((comma 24 (primary.Path (named (codes "s") 41 ∷ named (codes "r") 43 ∷ []) None None 41)) ∷ []))

path_alias : answer three_tables path_alias_text ≡ Err (4, 7)
unfolding found
path_alias = simp (typing, trees, opens, types, values)

-- `SELECT * FROM (SELECT 1 AS x, 2 AS k, 5 AS j) JOIN (SELECT 2 AS k, 3 AS y, 5 AS j) USING (j, k)`: the columns of USING first, then the others of each side
abbrev using_first_text : Query
using_first_text = select_from 0 (star 7 ∷ []) (from_items 14 (subquery (select_only 15 (as_name (e.Integer 1 22) 22 (codes "x") 27 ∷ as_name (e.Integer 2 30) 30 (codes "k") 35 ∷ as_name (e.Integer 5 38) 38 (codes "j") 43 ∷ [])) 14) ((join_using join.Inner 46 (subquery (select_only 52 (as_name (e.Integer 2 59) 59 (codes "k") 64 ∷ as_name (e.Integer 3 67) 67 (codes "y") 72 ∷ as_name (e.Integer 5 75) 75 (codes "j") 80 ∷ [])) 51) (named (codes "j") 90 ∷ named (codes "k") 93 ∷ []) 83) ∷ []))

using_first : answer three_tables using_first_text ≡ Ok (column_of (codes "j") ty.Int64 ∷ column_of (codes "k") ty.Int64 ∷ column_of (codes "x") ty.Int64 ∷ column_of (codes "y") ty.Int64 ∷ [])
unfolding found
using_first = simp (typing, trees, opens, types, values)

-- `SELECT WITH(a AS a + 1, b AS a, a + b) FROM t WHERE a = 1`: a variable hides the column of its name
abbrev variable_hides_text : Query
variable_hides_text = select 0 (plain (e.With (record { name = named (codes "a") 12; expr = (sum 17 (e.Name (codes "a") 17) 19 (e.Integer 1 21)) } ∷ record { name = named (codes "b") 24; expr = (e.Name (codes "a") 29) } ∷ []) (sum 32 (e.Name (codes "a") 32) 34 (e.Name (codes "b") 36)) 7) 7 ∷ []) (only 44 (table (codes "t") 44)) (equals 52 (e.Name (codes "a") 52) 54 (e.Integer 1 56))

variable_hides : answer three_tables variable_hides_text ≡ Ok (unnamed ty.Int64 ∷ [])
unfolding found
variable_hides = simp (plus_column, plus_columns, equal_column, typing, trees, opens, types, values)
