use Rattle.std.proofs.Common.{ℕ, ◌<◌, arith}
use Rattle.eval_groups.proofs.TestLaws.{one_more}
use Rattle.eval_groups.proofs.tests.push_below.Goals as goal

pub returns : goal.returns
returns c = one_more (λ (number : ℕ). number < c.args.count) c.args.numbers.now c.push.new.self c.args.number c.requires (omega (arith, c.if-number-count.false)) c.in_ok-push.ensures.ok
