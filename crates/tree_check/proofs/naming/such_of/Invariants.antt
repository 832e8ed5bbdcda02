-- The first of the columns left is the first of all.
use Rattle.std.proofs.Common.{◌≡◌, drop}
use Rattle.tree_check.specs.Named.{first_such}
use Rattle.tree_check.specs.Tests.{passes}
use Rattle.tree_check.proofs.naming.such_of.Given as goal

abbrev pub invariant-loop-column : goal.invariant-loop-column
invariant-loop-column l = first_such l.wanted (passes l.asked) (drop l.column-index l.columns) ≡ first_such l.wanted (passes l.asked) l.columns
