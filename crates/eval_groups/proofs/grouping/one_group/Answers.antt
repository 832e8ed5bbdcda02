use Rattle.std.proofs.Common.{arith}
use Rattle.eval_groups.proofs.GroupLaws.{numbers_one_more}
use Rattle.eval_groups.proofs.grouping.one_group.Goals as goal

pub loop-number-preserved : goal.loop-number-preserved
loop-number-preserved c =
    numbers_one_more c.args.rows.now c.loop-number.number c.loop-number.numbers c.push.new.self (omega (arith, c.loop-number-test.true)) c.loop-number.invariant c.in_ok-push.ensures.ok
