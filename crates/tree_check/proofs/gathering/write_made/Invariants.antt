-- The numbers of the columns left are still to be written.
use Rattle.std.proofs.Common.{◌≡◌, ◌++◌, drop}
use Rattle.resolved_ast.specs.Columns.{numbers}
use Rattle.tree_check.proofs.gathering.write_made.Given as goal

abbrev pub invariant-loop-column : goal.invariant-loop-column
invariant-loop-column l = l.out.items ++ numbers (drop l.column-index l.columns) ≡ l.initial.out.items ++ numbers l.columns
