-- Each list so far is empty.
use Rattle.std.proofs.Common.{◌≡◌, []}
use Rattle.sql_aggregates.proofs.TestLaws.{AllFit}
use Rattle.sql_aggregates.proofs.tests.two_rows.Given as goal

abbrev pub invariant-loop : goal.invariant-loop
invariant-loop l = record { call_is : l.accumulator.call ≡ l.call; fit : AllFit [] l.accumulator.added }
