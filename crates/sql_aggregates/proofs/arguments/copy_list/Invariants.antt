-- The values so far.
use Rattle.std.proofs.Common.{◌≡◌, take}
use Rattle.sql_aggregates.proofs.arguments.copy_list.Given as goal

abbrev pub invariant-loop-value : goal.invariant-loop-value
invariant-loop-value l = l.copies ≡ take l.value-index l.values
