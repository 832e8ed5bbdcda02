-- The numbers so far, and the next one.
use Rattle.std.proofs.Common.{◌≡◌, ◌+ℤ◌, ◌*ℤ◌, pos}
use Rattle.sql_numbers.specs.Arrays as rows
use Rattle.sql_numbers.proofs.generated.in_steps.Given as goal

abbrev pub invariant-loop : goal.invariant-loop
invariant-loop l = (l.numbers ≡ rows.in_steps l.first l.step l.counter) × (l.number ≡ l.first +ℤ pos l.counter *ℤ l.step)
