-- The numbers of the columns left are still to be written.
use Rattle.std.proofs.Common.{◌≡◌, ◌++◌, drop}
use Rattle.resolved_ast.specs.Columns.{ids_of}
use Rattle.tree_check.proofs.gathering.write_used.Given as goal

abbrev pub invariant-loop-column : goal.invariant-loop-column
invariant-loop-column l = l.out.items ++ ids_of (drop l.column-index l.columns) ≡ l.initial.out.items ++ ids_of l.columns
