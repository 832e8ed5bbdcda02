-- The power so far.
use Rattle.std.proofs.Common.{◌≡◌, ◌^◌, min}
use Rattle.sql_measures.proofs.capped.power_of_two.Given as goal

abbrev pub invariant-loop-step : goal.invariant-loop-step
invariant-loop-step l = l.power ≡ min (2 ^ l._step) 18446744073709551615
