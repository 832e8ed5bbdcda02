-- Worked examples of typing: texts and their columns.
use Rattle.std.proofs.Common.{◌≡◌, false, [], ◌∷◌, codes, None, Some, Ok}
use Rattle.sql_types.specs.declared.sql_type.SqlType.TheVariants as ty
use Rattle.sql_ast.specs.declared.expr.Expr.TheVariants as e
use Rattle.sql_ast.specs.declared.expr.Signed.TheVariants as signed
use Rattle.sql_ast.specs.declared.query.JoinWord.TheVariants as join
use Rattle.sql_ast.specs.declared.query.Primary.TheVariants as primary
use Rattle.sql_ast.specs.declared.query.Query.{Query}
use Rattle.sql_ast.specs.declared.type_spelling.TypeSpelling.TheVariants as spelling
use Rattle.sql_rules.specs.Scopes.{found}
use Rattle.sql_semantics.proofs.Trees.{named, sum, product, both, equals, call, plain, as_name, column, star, select, select_from, select_only, from_items, only, table, table_as, subquery, comma, join_using}
use Rattle.sql_semantics.proofs.SmallCatalog.{three_tables, column_of, unnamed}
use Rattle.sql_semantics.proofs.Computing.{trees, types, values, opens, typing, answer}
use Rattle.sql_semantics.proofs.ChoiceExamples.{equal_column, equal_untyped, error_of, and_of, plus_numbers, plus_column, times_columns, div_numbers, iferror_number}

-- `SELECT a FROM t WHERE a = 2`
abbrev one_row_text : Query
one_row_text = select 0 (column (codes "a") 7 ∷ []) (only 14 (table (codes "t") 14)) (equals 22 (e.Name (codes "a") 22) 24 (e.Integer 2 26))

one_row : answer three_tables one_row_text ≡ Ok (column_of (codes "a") ty.Int64 ∷ [])
unfolding found
one_row = simp (equal_column, typing, trees, opens, types, values)

-- `SELECT k FROM e`
abbrev no_row_text : Query
no_row_text = select_from 0 (column (codes "k") 7 ∷ []) (only 14 (table (codes "e") 14))

no_row : answer three_tables no_row_text ≡ Ok (column_of (codes "k") ty.Int64 ∷ [])
unfolding found
no_row = simp (typing, trees, opens, types, values)

-- `SELECT 9223372036854775807 + 1`
abbrev greatest_text : Query
greatest_text = select_only 0 (plain (sum 7 (e.Integer 9223372036854775807 7) 27 (e.Integer 1 29)) 7 ∷ [])

greatest : answer three_tables greatest_text ≡ Ok (unnamed ty.Int64 ∷ [])
unfolding found
greatest = simp (plus_numbers, typing, trees, opens, types, values)

-- `SELECT -9223372036854775808`: a UINT64 literal by itself
abbrev least_text : Query
least_text = select_only 0 (plain (e.Unary (record { operator = signed.Minus; place = 7 } ∷ []) (e.Integer 9223372036854775808 8) 7) 7 ∷ [])

least : answer three_tables least_text ≡ Ok (unnamed ty.Int64 ∷ [])
unfolding found
least = simp (typing, trees, opens, types, values)

-- `SELECT FALSE AND ERROR('x') = 1`
abbrev decided_text : Query
decided_text = select_only 0 (plain (both 7 (e.Bool false 7) 13 (equals 17 (call (codes "ERROR") ((e.Text (codes "x") 23) ∷ []) 17) 28 (e.Integer 1 30))) 7 ∷ [])

decided : answer three_tables decided_text ≡ Ok (unnamed ty.Bool ∷ [])
unfolding found
decided = simp (and_of, equal_untyped, error_of, typing, trees, opens, types, values)

-- `SELECT NULL IN UNNEST(ARRAY<INT64>[]), 1 IN (2, NULL)`
abbrev in_lists_text : Query
in_lists_text = select_only 0 (plain (e.InUnnest (e.Null 7) false 12 (e.Array (Some (spelling.Name (named (codes "INT64") 28))) [] 34 22) 7) 7 ∷ plain (e.InList (e.Integer 1 39) false 41 (e.Integer 2 45 ∷ e.Null 48 ∷ []) 39) 39 ∷ [])

in_lists : answer three_tables in_lists_text ≡ Ok (unnamed ty.Bool ∷ unnamed ty.Bool ∷ [])
unfolding found
in_lists = simp (typing, trees, opens, types, values)

-- `SELECT 1 FROM t, t AS u`
abbrev two_of_one_text : Query
two_of_one_text = select_from 0 (plain (e.Integer 1 7) 7 ∷ []) (from_items 14 (table (codes "t") 14) ((comma 15 (table_as (codes "t") 17 (codes "u") 22)) ∷ []))

two_of_one : answer three_tables two_of_one_text ≡ Ok (unnamed ty.Int64 ∷ [])
unfolding found
two_of_one = simp (typing, trees, opens, types, values)

-- `SELECT * FROM (SELECT 1 AS k, 10 AS x) FULL JOIN (SELECT 2 AS k, 20 AS y) USING (k)`: the column of USING comes first
abbrev full_join_text : Query
full_join_text = select_from 0 (star 7 ∷ []) (from_items 14 (subquery (select_only 15 (as_name (e.Integer 1 22) 22 (codes "k") 27 ∷ as_name (e.Integer 10 30) 30 (codes "x") 36 ∷ [])) 14) ((join_using join.Full 39 (subquery (select_only 50 (as_name (e.Integer 2 57) 57 (codes "k") 62 ∷ as_name (e.Integer 20 65) 65 (codes "y") 71 ∷ [])) 49) (named (codes "k") 81 ∷ []) 74) ∷ []))

full_join : answer three_tables full_join_text ≡ Ok (column_of (codes "k") ty.Int64 ∷ column_of (codes "x") ty.Int64 ∷ column_of (codes "y") ty.Int64 ∷ [])
unfolding found
full_join = simp (typing, trees, opens, types, values)

-- `SELECT (SELECT a FROM t)`
abbrev scalar_text : Query
scalar_text = select_only 0 (plain (e.Scalar (select_from 8 (column (codes "a") 15 ∷ []) (only 22 (table (codes "t") 22))) 7) 7 ∷ [])

scalar : answer three_tables scalar_text ≡ Ok (unnamed ty.Int64 ∷ [])
unfolding found
scalar = simp (typing, trees, opens, types, values)

-- `SELECT WITH(x AS 2, y AS x + 1, x * y)`
abbrev variables_text : Query
variables_text = select_only 0 (plain (e.With (record { name = named (codes "x") 12; expr = (e.Integer 2 17) } ∷ record { name = named (codes "y") 20; expr = (sum 25 (e.Name (codes "x") 25) 27 (e.Integer 1 29)) } ∷ []) (product 32 (e.Name (codes "x") 32) 34 (e.Name (codes "y") 36)) 7) 7 ∷ [])

variables : answer three_tables variables_text ≡ Ok (unnamed ty.Int64 ∷ [])
unfolding found
variables = simp (plus_column, times_columns, typing, trees, opens, types, values)

-- `SELECT x, o FROM UNNEST(['p', NULL]) AS x WITH OFFSET AS o`
abbrev offsets_text : Query
offsets_text = select_from 0 (column (codes "x") 7 ∷ column (codes "o") 10 ∷ []) (only 17 (primary.Unnest (e.Array None (e.Text (codes "p") 25 ∷ e.Null 30 ∷ []) 24 24) (Some (named (codes "x") 40)) (Some (record { alias = Some (named (codes "o") 57); place = 42 })) 17))

offsets : answer three_tables offsets_text ≡ Ok (column_of (codes "x") ty.Text ∷ column_of (codes "o") ty.Int64 ∷ [])
unfolding found
offsets = simp (typing, trees, opens, types, values)

-- `SELECT IFERROR(DIV(1, 0), 7)`
abbrev caught_text : Query
caught_text = select_only 0 (plain (call (codes "IFERROR") ((call (codes "DIV") ((e.Integer 1 19) ∷ (e.Integer 0 22) ∷ []) 15) ∷ (e.Integer 7 26) ∷ []) 7) 7 ∷ [])

caught : answer three_tables caught_text ≡ Ok (unnamed ty.Int64 ∷ [])
unfolding found
caught = simp (div_numbers, iferror_number, typing, trees, opens, types, values)

-- `SELECT CAST('x' AS INT64)`
abbrev cast_text : Query
cast_text = select_only 0 (plain (e.Cast false (e.Text (codes "x") 12) (spelling.Name (named (codes "INT64") 19)) 7) 7 ∷ [])

cast : answer three_tables cast_text ≡ Ok (unnamed ty.Int64 ∷ [])
unfolding found
cast = simp (typing, trees, opens, types, values)

-- `SELECT 1 FROM UNNEST([1]) AS u, UNNEST([2]) AS u`: aliases of UNNEST are columns, and may repeat
abbrev elements_text : Query
elements_text = select_from 0 (plain (e.Integer 1 7) 7 ∷ []) (from_items 14 (primary.Unnest (e.Array None (e.Integer 1 22 ∷ []) 21 21) (Some (named (codes "u") 29)) None 14) ((comma 30 (primary.Unnest (e.Array None (e.Integer 2 40 ∷ []) 39 39) (Some (named (codes "u") 47)) None 32)) ∷ []))

elements : answer three_tables elements_text ≡ Ok (unnamed ty.Int64 ∷ [])
unfolding found
elements = simp (typing, trees, opens, types, values)
