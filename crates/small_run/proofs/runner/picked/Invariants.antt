-- The values so far stand at the places so far.
use Rattle.std.proofs.Common.{◌≡◌, take}
use Rattle.small_run.specs.Plans as plans
use Rattle.small_run.proofs.runner.picked.Given as goal

abbrev pub invariant-loop-slot : goal.invariant-loop-slot
invariant-loop-slot l = l.values ≡ plans.picked (take l.slot-index l.slots) l.row
