-- The numbers of the columns left are still to be written.
use Rattle.std.proofs.Common.{◌≡◌, ◌++◌, drop}
use Rattle.resolved_ast.specs.Columns.{numbers, computed_columns}
use Rattle.tree_check.proofs.gathering.write_computed.Given as goal

abbrev pub invariant-loop-compute : goal.invariant-loop-compute
invariant-loop-compute g l = l.out.items ++ numbers (computed_columns (drop l.compute-index l.computed)) ≡ l.initial.out.items ++ numbers (computed_columns l.computed)
