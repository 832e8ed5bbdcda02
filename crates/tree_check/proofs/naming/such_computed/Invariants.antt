-- The first of the columns left is the first of all.
use Rattle.std.proofs.Common.{◌≡◌, drop}
use Rattle.resolved_ast.specs.Columns.{computed_columns}
use Rattle.tree_check.specs.Named.{first_such}
use Rattle.tree_check.specs.Tests.{passes}
use Rattle.tree_check.proofs.naming.such_computed.Given as goal

abbrev pub invariant-loop-compute : goal.invariant-loop-compute
invariant-loop-compute l = first_such l.wanted (passes l.asked) (computed_columns (drop l.compute-index l.computed)) ≡ first_such l.wanted (passes l.asked) (computed_columns l.computed)
