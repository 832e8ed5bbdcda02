use Rattle.std.proofs.Common.{arith}
use Rattle.eval_groups.proofs.GroupLaws.{none_parted, row_parted}
use Rattle.eval_groups.proofs.grouping.keyed_groups.Goals as goal

pub loop-number-init : goal.loop-number-init
loop-number-init c = none_parted c.args.keys.now c.start-classes.result c.new-groups.result.items c.start-classes.ensures c.new-groups.ensures.items

pub loop-number-preserved : goal.loop-number-preserved
loop-number-preserved c =
    row_parted c.args.keys.now c.args.rows.now c.loop-number.number c.in_ok-class.class c.index-rows-number.result c.as_slice.result.now c.loop-number.classes c.add.new.self c.loop-number.groups.items c.add_row.new.groups.items
    (omega (arith, c.loop-number-test.true)) c.index-rows-number.is c.as_slice.ensures c.in_ok-class.ensures.added c.in_ok-class.ensures.number c.add.ensures.apart c.in_ok-add_row.ensures c.loop-number.invariant
