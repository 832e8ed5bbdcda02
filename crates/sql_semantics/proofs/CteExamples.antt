-- Worked examples of meaning: what a CTE gives those that read it.
use Rattle.std.proofs.Common.{ℕ, pos, Bool, true, false, List, [], ◌∷◌, codes, None, Some, Ok, refl}
use Rattle.sql_types.specs.declared.sql_type.SqlType.TheVariants as ty
use Rattle.sql_types.specs.declared.value.Value.{Value}
use Rattle.sql_types.specs.declared.value.Value.TheVariants as v
use Rattle.sql_ast.specs.declared.expr.Expr.TheVariants as e
use Rattle.sql_ast.specs.declared.query.Query.{Query}
use Rattle.sql_ast.specs.declared.query.Term.{Term}
use Rattle.sql_ast.specs.declared.query.Term.TheVariants as term
use Rattle.sql_rules.specs.declared.scope.Entry.{Entry}
use Rattle.sql_rules.specs.declared.scope.Found.TheVariants.{Bound}
use Rattle.sql_rules.specs.Scopes.{found}
use Rattle.sql_semantics.specs.Environments.{empty_env, Reads}
use Rattle.sql_semantics.specs.MeansLayers.{TableRows}
use Rattle.sql_semantics.specs.Meanings.{MeansTerm, MeansQuery}
use Rattle.sql_semantics.proofs.Trees.{both, call, equals, field, table_as, comma, query_of, named, plain, select_of, select_only, as_name, from_items}
use Rattle.sql_semantics.proofs.SmallCatalog.{three_tables, column_of}
use Rattle.sql_semantics.proofs.Computing.{trees, typing}
use Rattle.sql_semantics.proofs.OnlyLaws.{Only, only_first_faults, only_as, only_just, only_then, only_fault, only_nothing, only_more, only_both, only_row, only_reads}
use Rattle.sql_semantics.proofs.ChoiceExamples.{error_of, equal_untyped, iserror_truth, and_of}
use Rattle.sql_semantics.proofs.TwoLaws.{Two, two_first, two_then, two_fault, two_one, two_tried, false_or_fault, cte_two}
use Rattle.sql_semantics.proofs.Evaluating.{meaning}
use Rattle.sql_semantics.proofs.MeantExamples.{same_truth, error_row, only_one}

-- a column of the only scope, by its place
first_slot : (used : ℕ) {scope : List Entry} {x : Value} {more : List Value} →
    Only (Reads (record { frames = record { scope = scope; values = x ∷ more } ∷ []; ctes = [] }) (Bound (record { level = 0; slot = 0; used = used }))) (Ok x)
first_slot used {scope = scope} {x = x} {more = more} = only_reads (record { frames = record { scope = scope; values = x ∷ more } ∷ []; ctes = [] }) (record { level = 0; slot = 0; used = used }) (record { scope = scope; values = x ∷ more }) x refl refl

third_slot : (used : ℕ) {scope : List Entry} {u w x : Value} {more : List Value} →
    Only (Reads (record { frames = record { scope = scope; values = u ∷ w ∷ x ∷ more } ∷ []; ctes = [] }) (Bound (record { level = 0; slot = 2; used = used }))) (Ok x)
third_slot used {scope = scope} {u = u} {w = w} {x = x} {more = more} = only_reads (record { frames = record { scope = scope; values = u ∷ w ∷ x ∷ more } ∷ []; ctes = [] }) (record { level = 0; slot = 2; used = used }) (record { scope = scope; values = u ∷ w ∷ x ∷ more }) x refl refl

-- one row in t
abbrev one_row : TableRows
one_row = ((v.Int (pos 1) ∷ v.Text (codes "x") ∷ []) ∷ []) ∷ [] ∷ [] ∷ []

-- ---- one outcome of a CTE

-- `WITH c AS (SELECT ISERROR(FALSE AND ERROR('x') = 1) AS v) SELECT l.v, r.v FROM c AS l, c AS r`
abbrev undecided : Query
undecided = select_only 11 (as_name (call (codes "ISERROR") (both 26 (e.Bool false 26) 32 (equals 36 (call (codes "ERROR") (e.Text (codes "x") 42 ∷ []) 36) 47 (e.Integer 1 49)) ∷ []) 18) 18 (codes "v") 55 ∷ [])

-- the CTE's query may give either truth value
either_truth : Two (MeansQuery three_tables [] [] one_row [] undecided empty_env) (Ok ((v.Bool false ∷ []) ∷ [])) (Ok ((v.Bool true ∷ []) ∷ []))
unfolding found
either_truth =
    simp (meaning, typing, trees, error_of, equal_untyped, iserror_truth, and_of)
    (two_then
    (two_first (only_just _) (two_first (only_just _) (two_then (two_one (two_then (two_one (two_then (two_tried (two_fault
    (false_or_fault (only_then (only_just _) (only_as (same_truth _))) (only_fault (only_fault (only_first_faults (only_fault (error_row _)) (only_more only_one only_nothing)))))
    (only_as (same_truth _)))) (only_just _) (only_just _))) (only_just _) (only_just _))) (only_just _) (only_just _))))
    (only_row _) (only_row _))

abbrev reader : Term
reader = term.Select (select_of 58
    (plain (field 65 (e.Name (codes "l") 65) (codes "v") 67) 65 ∷ plain (field 70 (e.Name (codes "r") 70) (codes "v") 72) 70 ∷ [])
    (Some (from_items 79 (table_as (codes "c") 79 (codes "l") 84) (comma 85 (table_as (codes "c") 87 (codes "r") 92) ∷ []))) None)

-- the outcome that is taken is read twice
both_read : (b : Bool) → Only (MeansTerm three_tables [] [] one_row [] reader (record { frames = []; ctes = record { name = codes "c"; columns = column_of (codes "v") ty.Bool ∷ []; outcome = Ok ((v.Bool b ∷ []) ∷ []) } ∷ [] }))
    (Ok ((v.Bool b ∷ v.Bool b ∷ []) ∷ []))
unfolding found
both_read b =
    simp (meaning, typing, trees)
    (only_then
    (only_then (only_both (only_then (only_just _) (only_just _)) (only_then (only_just _) (only_just _))) (only_then (only_just _) (only_just _)))
    (only_then (only_just _) (only_then (only_more (only_then (only_more (only_then (first_slot 2) (only_just _)) (only_more (only_then (third_slot 2) (only_just _)) only_nothing)) (only_just _)) only_nothing) (only_just _))))

abbrev read_twice : Query
read_twice = query_of 0 (record { name = named (codes "c") 5; query = undecided } ∷ []) reader

-- so both columns are FALSE, or both TRUE
same_twice : Two (MeansQuery three_tables [] [] one_row [] read_twice empty_env) (Ok ((v.Bool false ∷ v.Bool false ∷ []) ∷ [])) (Ok ((v.Bool true ∷ v.Bool true ∷ []) ∷ []))
unfolding found
same_twice = simp (meaning, typing, trees, error_of, equal_untyped, iserror_truth, and_of) (cte_two either_truth (both_read false) (both_read true))
