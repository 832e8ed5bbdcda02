-- The rows that are left come behind those that were moved.
use Rattle.std.proofs.Common.{◌≡◌, ◌++◌, reverse, length}
use Rattle.eval_rows.proofs.sorting.moved.Given as goal

abbrev pub invariant-loop-row : goal.invariant-loop-row
invariant-loop-row l = l.moved.items ++ reverse l.list ≡ reverse l.fn.list

abbrev pub decreases-loop-row : goal.decreases-loop-row
decreases-loop-row l = length l.list
