-- Worked examples of typing: texts that break a rule of types or of forms, with the place.
use Rattle.std.proofs.Common.{◌≡◌, refl, pos, true, false, [], ◌∷◌, codes, None, Some, Err}
use Rattle.sql_semantics.specs.TypeForms.{date_literal}
use Rattle.sql_semantics.specs.TypeCalls.{extract_type}
use Rattle.sql_types.specs.Calendar.{month_length, year_length, year_lengths, calendar_years, days_before_year, days_before_month, day_number, read_date}
use Rattle.sql_ast.specs.declared.clauses.Item.TheVariants as item
use Rattle.sql_ast.specs.declared.expr.Expr.TheVariants as e
use Rattle.sql_ast.specs.declared.expr.Signed.TheVariants as signed
use Rattle.sql_ast.specs.declared.query.JoinWord.TheVariants as join
use Rattle.sql_ast.specs.declared.query.Primary.TheVariants as primary
use Rattle.sql_ast.specs.declared.query.Query.{Query}
use Rattle.sql_ast.specs.declared.query.Select.{roll-Select}
use Rattle.sql_ast.specs.declared.query.Term.TheVariants as term
use Rattle.sql_ast.specs.declared.type_spelling.TypeSpelling.TheVariants as spelling
use Rattle.sql_rules.specs.Scopes.{found}
use Rattle.sql_semantics.proofs.Trees.{named, plain, as_name, star, select, select_from, select_only, query_of, from_items, only, table, subquery, join_using}
use Rattle.sql_semantics.proofs.SmallCatalog.{three_tables}
use Rattle.sql_semantics.proofs.Computing.{trees, types, values, opens, typing, answer}
use Rattle.sql_semantics.proofs.ChoiceExamples.{extract_week, minus_number}

january : read_date (codes "2024-01-31") ≡ Some (pos 19753)
unfolding read_date month_length day_number days_before_year days_before_month calendar_years year_lengths year_length
january = refl

february : read_date (codes "2024-02-30") ≡ None
unfolding read_date month_length
february = refl

-- `SELECT 1 FROM t WHERE a`
abbrev no_condition_text : Query
no_condition_text = select 0 (plain (e.Integer 1 7) 7 ∷ []) (only 14 (table (codes "t") 14)) (e.Name (codes "a") 22)

no_condition : answer three_tables no_condition_text ≡ Err (11, 22)
unfolding found
no_condition = simp (typing, trees, opens, types, values)

-- `SELECT ARRAY<INT32>[-5]`
abbrev no_literal_text : Query
no_literal_text = select_only 0 (plain (e.Array (Some (spelling.Name (named (codes "INT32") 13))) ((e.Unary (record { operator = signed.Minus; place = 20 } ∷ []) (e.Integer 5 21) 20) ∷ []) 19 7) 7 ∷ [])

no_literal : answer three_tables no_literal_text ≡ Err (11, 20)
unfolding found
no_literal = simp (minus_number, typing, trees, opens, types, values)

-- `SELECT CASE WHEN 1 THEN nosuch END`: a test counts as soon as it is typed
abbrev condition_first_text : Query
condition_first_text = select_only 0 (plain (e.Case None (record { test = (e.Integer 1 17); result = (e.Name (codes "nosuch") 24) } ∷ []) None 7) 7 ∷ [])

condition_first : answer three_tables condition_first_text ≡ Err (11, 17)
unfolding found
condition_first = simp (typing, trees, opens, types, values)

-- `SELECT CAST(DATE '2024-01-31' AS INT64)`
abbrev no_cast_text : Query
no_cast_text = select_only 0 (plain (e.Cast false (e.Date (codes "2024-01-31") 12) (spelling.Name (named (codes "INT64") 33)) 7) 7 ∷ [])

no_cast : answer three_tables no_cast_text ≡ Err (12, 7)
unfolding found
no_cast = simp (january, date_literal, typing, trees, opens, types, values)

-- `SELECT (SELECT 1, 2)`
abbrev two_columns_text : Query
two_columns_text = select_only 0 (plain (e.Scalar (select_only 8 (plain (e.Integer 1 15) 15 ∷ plain (e.Integer 2 18) 18 ∷ [])) 7) 7 ∷ [])

two_columns : answer three_tables two_columns_text ≡ Err (18, 7)
unfolding found
two_columns = simp (typing, trees, opens, types, values)

-- `SELECT ARRAY (SELECT 1, 2)`: at the bracket
abbrev array_columns_text : Query
array_columns_text = select_only 0 (plain (e.ArrayQuery (select_only 14 (plain (e.Integer 1 21) 21 ∷ plain (e.Integer 2 24) 24 ∷ [])) 13 7) 7 ∷ [])

array_columns : answer three_tables array_columns_text ≡ Err (18, 13)
unfolding found
array_columns = simp (typing, trees, opens, types, values)

-- `SELECT 1 FROM UNNEST(5)`
abbrev no_array_text : Query
no_array_text = select_from 0 (plain (e.Integer 1 7) 7 ∷ []) (only 14 (primary.Unnest (e.Integer 5 21) None None 14))

no_array : answer three_tables no_array_text ≡ Err (19, 21)
unfolding found
no_array = simp (typing, trees, opens, types, values)

-- `SELECT *`
abbrev star_of_nothing_text : Query
star_of_nothing_text = select_only 0 (star 7 ∷ [])

star_of_nothing : answer three_tables star_of_nothing_text ≡ Err (20, 7)
unfolding found
star_of_nothing = simp (typing, trees, opens, types, values)

-- `SELECT * EXCEPT (z) FROM t`
abbrev not_listed_text : Query
not_listed_text = select_from 0 (item.Star (record { except = named (codes "z") 17 ∷ []; replace = [] }) 7 ∷ []) (only 25 (table (codes "t") 25))

not_listed : answer three_tables not_listed_text ≡ Err (20, 7)
unfolding found
not_listed = simp (typing, trees, opens, types, values)

-- `SELECT * EXCEPT (a) REPLACE (nosuch AS a) FROM t`
abbrev replacement_first_text : Query
replacement_first_text = select_from 0 (item.Star (record { except = named (codes "a") 17 ∷ []; replace = record { expr = (e.Name (codes "nosuch") 29); name = named (codes "a") 39 } ∷ [] }) 7 ∷ []) (only 47 (table (codes "t") 47))

replacement_first : answer three_tables replacement_first_text ≡ Err (3, 29)
unfolding found
replacement_first = simp (typing, trees, opens, types, values)

-- `SELECT [[1]]`
abbrev array_of_arrays_text : Query
array_of_arrays_text = select_only 0 (plain (e.Array None (e.Array None ((e.Integer 1 9) ∷ []) 8 8 ∷ []) 7 7) 7 ∷ [])

array_of_arrays : answer three_tables array_of_arrays_text ≡ Err (21, 7)
unfolding found
array_of_arrays = simp (typing, trees, opens, types, values)

-- `SELECT CAST(NULL AS ARRAY<ARRAY<INT64>>)`
abbrev type_of_arrays_text : Query
type_of_arrays_text = select_only 0 (plain (e.Cast false (e.Null 12) (spelling.Array (spelling.Array (spelling.Name (named (codes "INT64") 32)) 26) 20) 7) 7 ∷ [])

type_of_arrays : answer three_tables type_of_arrays_text ≡ Err (21, 20)
unfolding found
type_of_arrays = simp (typing, trees, opens, types, values)

-- `SELECT EXTRACT(WEEK FROM DATE '2024-01-31')`
abbrev no_part_text : Query
no_part_text = select_only 0 (plain (e.Extract (named (codes "WEEK") 15) (e.Date (codes "2024-01-31") 25) 7) 7 ∷ [])

no_part : answer three_tables no_part_text ≡ Err (22, 15)
unfolding found
no_part = simp (january, extract_week, extract_type, date_literal, typing, trees, opens, types, values)

-- `SELECT @p`
abbrev no_parameter_text : Query
no_parameter_text = select_only 0 (plain (e.Parameter (codes "p") 7) 7 ∷ [])

no_parameter : answer three_tables no_parameter_text ≡ Err (23, 7)
unfolding found
no_parameter = simp (typing, trees, opens, types, values)

-- `SELECT 1 FROM (SELECT AS STRUCT 1)`
abbrev struct_in_from_text : Query
struct_in_from_text = select_from 0 (plain (e.Integer 1 7) 7 ∷ []) (only 14 (subquery (query_of 15 [] (term.Select (roll-Select (record { distinct = false; as_struct = true; items = plain (e.Integer 1 32) 32 ∷ []; from = None; filter = None; grouping = None; having = None; place = 15 })))) 14))

struct_in_from : answer three_tables struct_in_from_text ≡ Err (27, 15)
unfolding found
struct_in_from = simp (typing, trees, opens, types, values)

-- `SELECT CAST(1 AS NOSUCH)`
abbrev no_type_name_text : Query
no_type_name_text = select_only 0 (plain (e.Cast false (e.Integer 1 12) (spelling.Name (named (codes "NOSUCH") 17)) 7) 7 ∷ [])

no_type_name : answer three_tables no_type_name_text ≡ Err (28, 17)
unfolding found
no_type_name = simp (typing, trees, opens, types, values)

-- `SELECT 1 FROM t JOIN e USING (k)`
abbrev one_side_text : Query
one_side_text = select_from 0 (plain (e.Integer 1 7) 7 ∷ []) (from_items 14 (table (codes "t") 14) ((join_using join.Inner 16 (table (codes "e") 21) (named (codes "k") 30 ∷ []) 23) ∷ []))

one_side : answer three_tables one_side_text ≡ Err (29, 30)
unfolding found
one_side = simp (typing, trees, opens, types, values)

-- `SELECT 1 FROM (SELECT 1 AS k, 2 AS k) JOIN e USING (k)`
abbrev twice_on_a_side_text : Query
twice_on_a_side_text = select_from 0 (plain (e.Integer 1 7) 7 ∷ []) (from_items 14 (subquery (select_only 15 (as_name (e.Integer 1 22) 22 (codes "k") 27 ∷ as_name (e.Integer 2 30) 30 (codes "k") 35 ∷ [])) 14) ((join_using join.Inner 38 (table (codes "e") 43) (named (codes "k") 52 ∷ []) 45) ∷ []))

twice_on_a_side : answer three_tables twice_on_a_side_text ≡ Err (4, 52)
unfolding found
twice_on_a_side = simp (typing, trees, opens, types, values)

-- `SELECT DATE '2024-02-30'`
abbrev no_date_text : Query
no_date_text = select_only 0 (plain (e.Date (codes "2024-02-30") 7) 7 ∷ [])

no_date : answer three_tables no_date_text ≡ Err (30, 7)
unfolding found
no_date = simp (february, date_literal, typing, trees, opens, types, values)
