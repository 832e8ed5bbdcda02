-- Worked examples of meaning: which name a subquery reads, and what a CTE gives its readers.
use Rattle.std.proofs.Common.{ℕ, pos, List, [], ◌∷◌, codes, None, Some, Ok, refl}
use Rattle.sql_types.specs.declared.value.Value.{Value}
use Rattle.sql_types.specs.declared.value.Value.TheVariants as v
use Rattle.sql_ast.specs.declared.clauses.Item.{Item}
use Rattle.sql_ast.specs.declared.expr.Expr.{Expr}
use Rattle.sql_ast.specs.declared.expr.Expr.TheVariants as e
use Rattle.sql_ast.specs.declared.query.Query.{Query}
use Rattle.sql_rules.specs.declared.scope.Entry.{Entry}
use Rattle.sql_rules.specs.declared.scope.Found.TheVariants.{Bound}
use Rattle.sql_rules.specs.Scopes.{found}
use Rattle.sql_semantics.specs.Environments.{Frame, CteOutcome, empty_env, Reads}
use Rattle.sql_semantics.specs.MeansLayers.{TableRows, no_frame}
use Rattle.sql_semantics.specs.Meanings.{MeansSelect}
use Rattle.sql_semantics.proofs.Trees.{plain, column, table, only, select_from, select_of, select_only, as_name, subquery}
use Rattle.sql_semantics.proofs.SmallCatalog.{three_tables}
use Rattle.sql_semantics.proofs.Computing.{trees, typing}
use Rattle.sql_semantics.proofs.OnlyLaws.{Only, only_just, only_then, only_nothing, only_more, only_row, only_reads}
use Rattle.sql_semantics.proofs.Evaluating.{meaning}

-- the first column of the inner scope, and the second one of the outer
inner_first : (outer : Frame) (ctes : List CteOutcome) (used : ℕ) {scope : List Entry} {x : Value} {more : List Value} →
    Only (Reads (record { frames = outer ∷ record { scope = scope; values = x ∷ more } ∷ []; ctes = ctes }) (Bound (record { level = 1; slot = 0; used = used }))) (Ok x)
inner_first outer ctes used {scope = scope} {x = x} {more = more} =
    only_reads (record { frames = outer ∷ record { scope = scope; values = x ∷ more } ∷ []; ctes = ctes }) (record { level = 1; slot = 0; used = used }) (record { scope = scope; values = x ∷ more }) x refl refl

outer_second : (inner : Frame) (ctes : List CteOutcome) (used : ℕ) {scope : List Entry} {w x : Value} {more : List Value} →
    Only (Reads (record { frames = record { scope = scope; values = w ∷ x ∷ more } ∷ inner ∷ []; ctes = ctes }) (Bound (record { level = 0; slot = 1; used = used }))) (Ok x)
outer_second inner ctes used {scope = scope} {w = w} {x = x} {more = more} =
    only_reads (record { frames = record { scope = scope; values = w ∷ x ∷ more } ∷ inner ∷ []; ctes = ctes }) (record { level = 0; slot = 1; used = used }) (record { scope = scope; values = w ∷ x ∷ more }) x refl refl

-- one row in t
abbrev one_row : TableRows
one_row = ((v.Int (pos 1) ∷ v.Text (codes "x") ∷ []) ∷ []) ∷ [] ∷ [] ∷ []

abbrev seven : List (Item Expr) → Query
seven items = select_from 8 items (only 22 (subquery (select_only 23 (as_name (e.Integer 7 30) 30 (codes "a") 35 ∷ [])) 22))

-- `SELECT (SELECT a FROM (SELECT 7 AS a)) FROM t`: the inner name hides the outer one
inner_name : Only (MeansSelect three_tables [] [] one_row [] (select_of 0 (plain (e.Scalar (seven (column (codes "a") 15 ∷ [])) 7) 7 ∷ []) (Some (only 46 (table (codes "t") 46))) None) empty_env) (Ok ((v.Int (pos 7) ∷ []) ∷ []))
unfolding found
inner_name =
    simp (meaning, typing, trees)
    (only_then (only_then (only_just _) (only_just _)) (only_then (only_just _) (only_then (only_more (only_then (only_more (only_then (only_then (only_then
    (only_then (only_then (only_then (only_then (only_just _) (only_then (only_just _) (only_then (only_more (only_then (only_more (only_then (only_just _) (only_just _)) only_nothing) (only_just _)) only_nothing) (only_just _)))) (only_row _)) (only_just _)) (only_then (only_just _) (only_then (only_more (only_then (only_more (only_then (inner_first no_frame [] 1) (only_just _)) only_nothing) (only_just _)) only_nothing) (only_just _))))
    (only_row _)) (only_just _)) (only_just _)) only_nothing) (only_just _)) only_nothing) (only_just _))))

-- `SELECT (SELECT b FROM (SELECT 7 AS a)) FROM t`: a name that the inner scope lacks is the outer row's
outer_name : Only (MeansSelect three_tables [] [] one_row [] (select_of 0 (plain (e.Scalar (seven (column (codes "b") 15 ∷ [])) 7) 7 ∷ []) (Some (only 46 (table (codes "t") 46))) None) empty_env) (Ok ((v.Text (codes "x") ∷ []) ∷ []))
unfolding found
outer_name =
    simp (meaning, typing, trees)
    (only_then (only_then (only_just _) (only_just _)) (only_then (only_just _) (only_then (only_more (only_then (only_more (only_then (only_then (only_then
    (only_then (only_then (only_then (only_then (only_just _) (only_then (only_just _) (only_then (only_more (only_then (only_more (only_then (only_just _) (only_just _)) only_nothing) (only_just _)) only_nothing) (only_just _)))) (only_row _)) (only_just _)) (only_then (only_just _) (only_then (only_more (only_then (only_more (only_then (outer_second no_frame [] 1) (only_just _)) only_nothing) (only_just _)) only_nothing) (only_just _))))
    (only_row _)) (only_just _)) (only_just _)) only_nothing) (only_just _)) only_nothing) (only_just _))))
