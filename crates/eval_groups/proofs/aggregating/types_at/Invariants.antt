-- The types of the columns so far.
use Rattle.std.proofs.Common.{◌≡◌, take}
use Rattle.eval_groups.specs.Aggregated.{column_types, types_at}
use Rattle.eval_groups.proofs.aggregating.types_at.Given as goal

abbrev pub invariant-loop-place : goal.invariant-loop-place
invariant-loop-place l = l.types ≡ types_at (column_types l.rows) (take l.place-index l.places)
