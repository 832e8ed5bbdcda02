-- Worked examples of meaning: whole queries with the rows that they permit.
use Rattle.std.proofs.Common.{◌≡◌, ℕ, pos, false, List, [], ◌∷◌, codes, None, Some, Ok, Err, refl}
use Rattle.sql_types.specs.declared.fault.FaultKind.TheVariants as fault
use Rattle.sql_types.specs.declared.kinds.JoinKind.TheVariants as kind
use Rattle.sql_types.specs.declared.sql_type.SqlType.TheVariants as ty
use Rattle.sql_types.specs.declared.value.Value.{Value}
use Rattle.sql_types.specs.declared.value.Value.TheVariants as v
use Rattle.sql_types.specs.Outcome.{gives, ◌>>=◌, Gather}
use Rattle.sql_coerce.specs.Casts.{converted}
use Rattle.sql_ast.specs.declared.expr.Expr.TheVariants as e
use Rattle.sql_ast.specs.declared.query.JoinWord.TheVariants as join
use Rattle.sql_ast.specs.declared.query.Select.{Select}
use Rattle.sql_rules.specs.declared.scope.Entry.{Entry}
use Rattle.sql_rules.specs.declared.scope.Found.TheVariants.{Bound}
use Rattle.sql_rules.specs.Scopes.{found}
use Rattle.sql_semantics.specs.Environments.{CteOutcome, empty_env, Reads}
use Rattle.sql_semantics.specs.MeansFroms.{in_common, using_value}
use Rattle.sql_semantics.specs.MeansLayers.{all_of}
use Rattle.sql_semantics.specs.Meanings.{MeansExpr, MeansSelect}
use Rattle.sql_semantics.proofs.Trees.{named, column, table, only, select_from, select_of, select_only, as_name, star, from_items, subquery, join_using, join_on}
use Rattle.sql_semantics.proofs.SmallCatalog.{three_tables, three_rows}
use Rattle.sql_semantics.proofs.Computing.{trees, types, values, opens, typing}
use Rattle.sql_semantics.proofs.OnlyLaws.{Only, only_as, only_just, only_then, only_nothing, only_more, only_both, only_row, only_reads, scalar_of}
use Rattle.sql_semantics.proofs.Evaluating.{meaning}
use Rattle.sql_semantics.proofs.MeantExamples.{same_truth}
use Rattle.sql_forms.specs.Conditions.{is_true}

-- a select list of one name, which is the first column of the only scope
first_column : (ctes : List CteOutcome) (used : ℕ) {scope : List Entry} {x : Value} {more : List Value} →
    Only (Gather ((Reads (record { frames = record { scope = scope; values = x ∷ more } ∷ []; ctes = ctes }) (Bound (record { level = 0; slot = 0; used = used })) >>= (λ y. gives (y ∷ []))) ∷ []) >>= (λ values. gives (all_of values))) (Ok (x ∷ []))
first_column ctes used {scope = scope} {x = x} {more = more} =
    only_then (only_more (only_then (only_reads (record { frames = record { scope = scope; values = x ∷ more } ∷ []; ctes = ctes }) (record { level = 0; slot = 0; used = used }) (record { scope = scope; values = x ∷ more }) x refl refl) (only_just (Ok (x ∷ [])))) only_nothing) (only_just _)

-- `SELECT a FROM t`
abbrev a_of_t : Select
a_of_t = select_of 0 (column (codes "a") 7 ∷ []) (Some (only 14 (table (codes "t") 14))) None

a_rows : Only (MeansSelect three_tables [] [] three_rows [] a_of_t empty_env) (Ok ((v.Int (pos 1) ∷ []) ∷ (v.Int (pos 2) ∷ []) ∷ (v.Int (pos 2) ∷ []) ∷ (v.Null ∷ []) ∷ []))
unfolding found
a_rows =
    simp (meaning, typing, trees)
    (only_then (only_then (only_just _) (only_just _)) (only_then (only_just _) (only_then (only_more (first_column [] 1) (only_more (first_column [] 1) (only_more (first_column [] 1) (only_more (first_column [] 1) only_nothing)))) (only_just _))))

-- `SELECT (SELECT a FROM t)`
scalar_faults : Only (MeansExpr three_tables [] [] three_rows [] (e.Scalar (select_from 8 (column (codes "a") 15 ∷ []) (only 22 (table (codes "t") 22))) 7) empty_env) (Err fault.ScalarRows)
unfolding found
scalar_faults =
    simp (meaning, typing, trees)
    (scalar_of (only_then (only_then (only_just _) (only_just _)) (only_then (only_just _) (only_then (only_more (first_column [] 1) (only_more (first_column [] 1) (only_more (first_column [] 1) (only_more (first_column [] 1) only_nothing)))) (only_just _)))) tt)

-- the column of USING in a FULL JOIN is the first value that isn't NULL
full_left : (n : ℕ) (other : Value) → using_value kind.Full (v.Int (pos n)) other ≡ v.Int (pos n)
full_left n other = simp (using_value, values)

full_right : (other : Value) → using_value kind.Full v.Null other ≡ other
full_right other = simp (using_value, values)

-- `SELECT * FROM (SELECT 1 AS k, 10 AS x) FULL JOIN (SELECT 2 AS k, 20 AS y) USING (k)`
abbrev full_of : Select
full_of = select_of 0 (star 7 ∷ []) (Some (from_items 14 (subquery (select_only 15 (as_name (e.Integer 1 22) 22 (codes "k") 27 ∷ as_name (e.Integer 10 30) 30 (codes "x") 36 ∷ [])) 14)
    (join_using join.Full 39 (subquery (select_only 50 (as_name (e.Integer 2 57) 57 (codes "k") 62 ∷ as_name (e.Integer 20 65) 65 (codes "y") 71 ∷ [])) 49) (named (codes "k") 81 ∷ []) 74 ∷ []))) None

full_rows : Only (MeansSelect three_tables [] [] three_rows [] full_of empty_env)
    (Ok ((v.Int (pos 1) ∷ v.Int (pos 10) ∷ v.Null ∷ []) ∷ (v.Int (pos 2) ∷ v.Null ∷ v.Int (pos 20) ∷ []) ∷ []))
unfolding found
full_rows =
    simp (meaning, typing, trees, opens, types, values)
    (only_then
    (only_then (only_both
    (only_then (only_then (only_then (only_just _) (only_then (only_just _) (only_then (only_more (only_then (only_more (only_then (only_just _) (only_just _)) (only_more (only_then (only_just _) (only_just _)) only_nothing)) (only_just _)) only_nothing) (only_just _)))) (only_row _)) (only_just _))
    (only_then (only_then (only_then (only_just _) (only_then (only_just _) (only_then (only_more (only_then (only_more (only_then (only_just _) (only_just _)) (only_more (only_then (only_just _) (only_just _)) only_nothing)) (only_just _)) only_nothing) (only_just _)))) (only_row _)) (only_just _)))
    (only_then (only_just _) (only_as {o = Ok ((v.Int (pos 1) ∷ v.Int (pos 10) ∷ v.Null ∷ v.Null ∷ v.Int (pos 1) ∷ []) ∷ (v.Null ∷ v.Null ∷ v.Int (pos 2) ∷ v.Int (pos 20) ∷ v.Int (pos 2) ∷ []) ∷ [])} (simp (in_common, full_left, full_right, opens, types, values)))))
    (only_then (only_just _) (only_then (only_more (only_then (only_more (only_then only_nothing (only_just _)) only_nothing) (only_just _)) (only_more (only_then (only_more (only_then only_nothing (only_just _)) only_nothing) (only_just _)) only_nothing)) (only_just _))))

-- ---- joins

null_truth : converted ty.Int64 ty.Bool v.Null ≡ Ok v.Null
null_truth = simp (opens, types, values)

-- `SELECT * FROM (SELECT 1 AS x) LEFT JOIN (SELECT 2 AS y) ON FALSE`: the left row stands with NULL
abbrev left_of : Select
left_of = select_of 0 (star 7 ∷ []) (Some (from_items 14 (subquery (select_only 15 (as_name (e.Integer 1 22) 22 (codes "x") 27 ∷ [])) 14)
    (join_on join.Left 30 (subquery (select_only 41 (as_name (e.Integer 2 48) 48 (codes "y") 53 ∷ [])) 40) (e.Bool false 59) 56 ∷ []))) None

left_rows : Only (MeansSelect three_tables [] [] three_rows [] left_of empty_env) (Ok ((v.Int (pos 1) ∷ v.Null ∷ []) ∷ []))
unfolding found
left_rows =
    simp (meaning, typing, trees, opens, types, values)
    (only_then
    (only_then (only_both
    (only_then (only_then (only_then (only_just _) (only_then (only_just _) (only_then (only_more (only_then (only_more (only_then (only_just _) (only_just _)) only_nothing) (only_just _)) only_nothing) (only_just _)))) (only_row _)) (only_just _))
    (only_then (only_then (only_then (only_just _) (only_then (only_just _) (only_then (only_more (only_then (only_more (only_then (only_just _) (only_just _)) only_nothing) (only_just _)) only_nothing) (only_just _)))) (only_row _)) (only_just _)))
    (only_then (only_then (only_then (only_both (only_more {x = v.Bool false} (simp (meaning, typing, trees) (only_then (only_just _) (only_as (same_truth false)))) only_nothing) (only_just _)) (only_just _)) (only_as {o = Ok ((false ∷ []) ∷ [])} (simp (is_true, values)))) (only_as {o = Ok ((v.Int (pos 1) ∷ v.Null ∷ []) ∷ [])} refl)))
    (only_then (only_just _) (only_then (only_more (only_then (only_more (only_then only_nothing (only_just _)) only_nothing) (only_just _)) only_nothing) (only_just _))))

-- `SELECT * FROM (SELECT 1 AS x) INNER JOIN (SELECT 2 AS y) ON NULL`: a condition that is NULL keeps no pair
abbrev inner_of : Select
inner_of = select_of 0 (star 7 ∷ []) (Some (from_items 14 (subquery (select_only 15 (as_name (e.Integer 1 22) 22 (codes "x") 27 ∷ [])) 14)
    (join_on join.Inner 30 (subquery (select_only 42 (as_name (e.Integer 2 49) 49 (codes "y") 54 ∷ [])) 41) (e.Null 60) 57 ∷ []))) None

no_rows : Only (MeansSelect three_tables [] [] three_rows [] inner_of empty_env) (Ok [])
unfolding found
no_rows =
    simp (meaning, typing, trees, opens, types, values)
    (only_then
    (only_then (only_both
    (only_then (only_then (only_then (only_just _) (only_then (only_just _) (only_then (only_more (only_then (only_more (only_then (only_just _) (only_just _)) only_nothing) (only_just _)) only_nothing) (only_just _)))) (only_row _)) (only_just _))
    (only_then (only_then (only_then (only_just _) (only_then (only_just _) (only_then (only_more (only_then (only_more (only_then (only_just _) (only_just _)) only_nothing) (only_just _)) only_nothing) (only_just _)))) (only_row _)) (only_just _)))
    (only_then (only_then (only_then (only_both (only_more {x = v.Null} (simp (meaning, typing, trees) (only_then (only_just _) (only_as null_truth))) only_nothing) (only_just _)) (only_just _)) (only_as {o = Ok ((false ∷ []) ∷ [])} (simp (is_true, values)))) (only_as {o = Ok []} refl)))
    (only_then (only_just _) (only_then only_nothing (only_just _))))
