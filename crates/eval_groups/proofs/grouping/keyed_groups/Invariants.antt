-- The rows so far are parted.
use Rattle.std.proofs.Common.{take}
use Rattle.eval_groups.proofs.GroupLaws.{PartedSoFar}
use Rattle.eval_groups.proofs.grouping.keyed_groups.Given as goal

abbrev pub invariant-loop-number : goal.invariant-loop-number
invariant-loop-number l = PartedSoFar l.keys (take l.number l.rows) l.classes l.groups.items
