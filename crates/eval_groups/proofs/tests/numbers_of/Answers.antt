use Rattle.std.proofs.Common.{ℕ, ◌<◌, sym, subst}
use Rattle.std.specs.List.{All}
use Rattle.eval_groups.proofs.TestLaws.{all_none}
use Rattle.eval_groups.proofs.tests.numbers_of.Goals as goal

pub loop-number-init : goal.loop-number-init
loop-number-init c = subst (All (λ (number : ℕ). number < c.args.count)) (sym c.new-numbers.ensures) (all_none (λ (number : ℕ). number < c.args.count))
