-- The numbers so far are below the count.
use Rattle.std.proofs.Common.{ℕ, ◌<◌}
use Rattle.std.specs.List.{All}
use Rattle.eval_groups.proofs.tests.numbers_of.Given as goal

abbrev pub invariant-loop-number : goal.invariant-loop-number
invariant-loop-number l = All (λ (number : ℕ). number < l.count) l.numbers
