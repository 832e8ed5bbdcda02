-- The types so far, before those of the columns left, are all types.
use Rattle.std.proofs.Common.{◌≡◌, ◌++◌, drop, map}
use Rattle.tree_check.specs.Sights.{source_columns}
use Rattle.tree_check.specs.TypesNamed.{types_named}
use Rattle.tree_check.proofs.with_nodes.cte_types.Given as goal

abbrev pub invariant-loop-column : goal.invariant-loop-column
invariant-loop-column l = map (λ ty. ty.now) l.types.items ++ types_named (drop l.column-index l.column-items) (source_columns l.cte.scan) ≡ types_named l.cte.columns.now (source_columns l.cte.scan)
