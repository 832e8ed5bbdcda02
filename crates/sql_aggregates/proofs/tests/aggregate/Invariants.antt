-- Each list so far is one value that fits.
use Rattle.std.proofs.Common.{◌≡◌, [], ◌∷◌}
use Rattle.sql_aggregates.proofs.TestLaws.{AllFit}
use Rattle.sql_aggregates.proofs.tests.aggregate.Given as goal

abbrev pub invariant-loop-plain : goal.invariant-loop-plain
invariant-loop-plain g l = record { call_is : l.accumulator.call ≡ l.call; fit : AllFit (l.ty ∷ []) l.accumulator.added }
