-- Worked examples of typing: texts that break a rule of names, of FROM or of calls, with the place.
use Rattle.std.proofs.Common.{◌≡◌, true, false, [], ◌∷◌, codes, None, Some, Err}
use Rattle.sql_ast.specs.declared.expr.Expr.TheVariants as e
use Rattle.sql_ast.specs.declared.expr.Operator.TheVariants as operator
use Rattle.sql_ast.specs.declared.expr.Signed.TheVariants as signed
use Rattle.sql_ast.specs.declared.clauses.Function.TheVariants as function
use Rattle.sql_ast.specs.declared.query.JoinWord.TheVariants as join
use Rattle.sql_ast.specs.declared.query.Query.{Query}
use Rattle.sql_ast.specs.declared.query.Term.TheVariants as term
use Rattle.sql_ast.specs.declared.type_spelling.TypeSpelling.TheVariants as spelling
use Rattle.sql_rules.specs.Scopes.{found}
use Rattle.sql_semantics.proofs.Trees.{named, arguments, sum, call, field, plain, column, select_from, select_only, query_of, select_of, from_items, only, table, table_as, comma, join_on}
use Rattle.sql_semantics.proofs.SmallCatalog.{three_tables}
use Rattle.sql_semantics.proofs.Computing.{trees, types, values, opens, typing, answer}
use Rattle.sql_semantics.proofs.ChoiceExamples.{and_number, not_number, plus_unsigned, minus_number}

-- `SELECT z FROM t`
abbrev not_found_text : Query
not_found_text = select_from 0 (column (codes "z") 7 ∷ []) (only 14 (table (codes "t") 14))

not_found : answer three_tables not_found_text ≡ Err (3, 7)
unfolding found
not_found = simp (typing, trees, opens, types, values)

-- `SELECT a FROM t, t AS u`: two columns of one name
abbrev ambiguous_text : Query
ambiguous_text = select_from 0 (column (codes "a") 7 ∷ []) (from_items 14 (table (codes "t") 14) ((comma 15 (table_as (codes "t") 17 (codes "u") 22)) ∷ []))

ambiguous : answer three_tables ambiguous_text ≡ Err (4, 7)
unfolding found
ambiguous = simp (typing, trees, opens, types, values)

-- `SELECT nosuch(z), y FROM q`: FROM comes before the select list
abbrev no_table_text : Query
no_table_text = select_from 0 (plain (call (codes "nosuch") ((e.Name (codes "z") 14) ∷ []) 7) 7 ∷ column (codes "y") 18 ∷ []) (only 25 (table (codes "q") 25))

no_table : answer three_tables no_table_text ≡ Err (5, 25)
unfolding found
no_table = simp (typing, trees, opens, types, values)

-- `SELECT k FROM t AS k, e`: the range variable hides the column of its name, and has no value
abbrev range_hides_text : Query
range_hides_text = select_from 0 (column (codes "k") 7 ∷ []) (from_items 14 (table_as (codes "t") 14 (codes "k") 19) ((comma 20 (table (codes "e") 22)) ∷ []))

range_hides : answer three_tables range_hides_text ≡ Err (6, 7)
unfolding found
range_hides = simp (typing, trees, opens, types, values)

-- `SELECT t.z FROM t`
abbrev no_column_text : Query
no_column_text = select_from 0 (plain (field 7 (e.Name (codes "t") 7) (codes "z") 9) 7 ∷ []) (only 16 (table (codes "t") 16))

no_column : answer three_tables no_column_text ≡ Err (6, 7)
unfolding found
no_column = simp (typing, trees, opens, types, values)

-- `SELECT STRUCT(1 AS x).y`
abbrev no_field_text : Query
no_field_text = select_only 0 (plain (field 7 (e.Struct (record { expr = (e.Integer 1 14); alias = Some (named (codes "x") 19) } ∷ []) 7) (codes "y") 22) 7 ∷ [])

no_field : answer three_tables no_field_text ≡ Err (6, 22)
unfolding found
no_field = simp (typing, trees, opens, types, values)

-- `SELECT nosuch(1)`
abbrev no_function_text : Query
no_function_text = select_only 0 (plain (call (codes "nosuch") ((e.Integer 1 14) ∷ []) 7) 7 ∷ [])

no_function : answer three_tables no_function_text ≡ Err (7, 7)
unfolding found
no_function = simp (typing, trees, opens, types, values)

-- `SELECT nosuch(z)`: an operand comes before the call
abbrev operands_first_text : Query
operands_first_text = select_only 0 (plain (call (codes "nosuch") ((e.Name (codes "z") 14) ∷ []) 7) 7 ∷ [])

operands_first : answer three_tables operands_first_text ≡ Err (3, 14)
unfolding found
operands_first = simp (typing, trees, opens, types, values)

-- `SELECT SAFE.IFERROR(1, 2)`
abbrev not_plain_text : Query
not_plain_text = select_only 0 (plain (e.SafeCall (record { function = function.Named (codes "IFERROR"); distinct = false; star = false; arguments = arguments ((e.Integer 1 20) ∷ (e.Integer 2 23) ∷ []); nulls = None; order = []; limit = None; place = 12 }) 7) 7 ∷ [])

not_plain : answer three_tables not_plain_text ≡ Err (7, 12)
unfolding found
not_plain = simp (typing, trees, opens, types, values)

-- `SELECT 1 FROM t, t`
abbrev repeated_range_text : Query
repeated_range_text = select_from 0 (plain (e.Integer 1 7) 7 ∷ []) (from_items 14 (table (codes "t") 14) ((comma 15 (table (codes "t") 17)) ∷ []))

repeated_range : answer three_tables repeated_range_text ≡ Err (8, 17)
unfolding found
repeated_range = simp (typing, trees, opens, types, values)

-- `SELECT 1 FROM t JOIN t ON nosuch`: the later item comes before the condition
abbrev repeated_first_text : Query
repeated_first_text = select_from 0 (plain (e.Integer 1 7) 7 ∷ []) (from_items 14 (table (codes "t") 14) ((join_on join.Inner 16 (table (codes "t") 21) (e.Name (codes "nosuch") 26) 23) ∷ []))

repeated_first : answer three_tables repeated_first_text ≡ Err (8, 21)
unfolding found
repeated_first = simp (typing, trees, opens, types, values)

-- `WITH c AS (SELECT 1), c AS (SELECT 2) SELECT 3`
abbrev repeated_cte_text : Query
repeated_cte_text = query_of 0 (record { name = named (codes "c") 5; query = (select_only 11 (plain (e.Integer 1 18) 18 ∷ [])) } ∷ record { name = named (codes "c") 22; query = (select_only 28 (plain (e.Integer 2 35) 35 ∷ [])) } ∷ []) (term.Select (select_of 38 (plain (e.Integer 3 45) 45 ∷ []) None None))

repeated_cte : answer three_tables repeated_cte_text ≡ Err (8, 22)
unfolding found
repeated_cte = simp (typing, trees, opens, types, values)

-- `SELECT WITH(x AS 1, x AS 2, x)`
abbrev repeated_variable_text : Query
repeated_variable_text = select_only 0 (plain (e.With (record { name = named (codes "x") 12; expr = (e.Integer 1 17) } ∷ record { name = named (codes "x") 20; expr = (e.Integer 2 25) } ∷ []) (e.Name (codes "x") 28) 7) 7 ∷ [])

repeated_variable : answer three_tables repeated_variable_text ≡ Err (8, 20)
unfolding found
repeated_variable = simp (typing, trees, opens, types, values)

-- `SELECT 1 AND TRUE AND nosuch`: a chain is typed as pairs from the left
abbrev pairs_from_the_left_text : Query
pairs_from_the_left_text = select_only 0 (plain (e.And (e.Integer 1 7) (record { operator = operator.And; operand = (e.Bool true 13); place = 9 } ∷ record { operator = operator.And; operand = (e.Name (codes "nosuch") 22); place = 18 } ∷ []) 7) 7 ∷ [])

pairs_from_the_left : answer three_tables pairs_from_the_left_text ≡ Err (9, 9)
unfolding found
pairs_from_the_left = simp (and_number, typing, trees, opens, types, values)

-- `SELECT NOT NOT 1`
abbrev inner_not_text : Query
inner_not_text = select_only 0 (plain (e.Not (7 ∷ 11 ∷ []) (e.Integer 1 15) 7) 7 ∷ [])

inner_not : answer three_tables inner_not_text ≡ Err (9, 11)
unfolding found
inner_not = simp (not_number, typing, trees, opens, types, values)

-- `SELECT CAST(1 AS UINT64) + -1`: a negative number is no literal
abbrev no_signature_text : Query
no_signature_text = select_only 0 (plain (sum 7 (e.Cast false (e.Integer 1 12) (spelling.Name (named (codes "UINT64") 17)) 7) 25 (e.Unary (record { operator = signed.Minus; place = 27 } ∷ []) (e.Integer 1 28) 27)) 7 ∷ [])

no_signature : answer three_tables no_signature_text ≡ Err (9, 25)
unfolding found
no_signature = simp (minus_number, plus_unsigned, typing, trees, opens, types, values)

-- `SELECT 1 IN ('x')`
abbrev no_supertype_text : Query
no_supertype_text = select_only 0 (plain (e.InList (e.Integer 1 7) false 9 ((e.Text (codes "x") 13) ∷ []) 7) 7 ∷ [])

no_supertype : answer three_tables no_supertype_text ≡ Err (10, 9)
unfolding found
no_supertype = simp (typing, trees, opens, types, values)

-- `SELECT [1, TRUE]`
abbrev no_element_type_text : Query
no_element_type_text = select_only 0 (plain (e.Array None ((e.Integer 1 8) ∷ (e.Bool true 11) ∷ []) 7 7) 7 ∷ [])

no_element_type : answer three_tables no_element_type_text ≡ Err (10, 7)
unfolding found
no_element_type = simp (typing, trees, opens, types, values)
