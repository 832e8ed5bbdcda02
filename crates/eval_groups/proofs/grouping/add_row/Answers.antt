use Rattle.std.proofs.Common.{◌<◌, ◌≤◌, arith, length}
use Rattle.key_classes.specs.Keys.{values_of}
use Rattle.eval_groups.proofs.GroupLaws.{put_in, put_last}
use Rattle.eval_groups.proofs.grouping.add_row.Goals as goal

pub returns-in_ok-push : goal.returns-in_ok-push
returns-in_ok-push c =
    let within : c.args.class < length c.args.groups.now.items = omega (arith, c.if-class-len.true, c.len.ensures) in
    put_in c.args.groups.now.items c.args.class c.args.row (values_of c.args.key.now) c.index_mut-group.result.now c.push.new.self within c.index_mut-group.ensures.value c.in_ok-push.ensures.ok

pub returns-in_ok-push-2 : goal.returns-in_ok-push-2
returns-in_ok-push-2 c =
    let past : length c.args.groups.now.items ≤ c.args.class = omega (arith, c.if-class-len.false, c.len.ensures) in
    put_last c.args.groups.now.items c.push-else-class-len.new.self.items c.args.class c.args.row (values_of c.args.key.now) c.in_ok-started.field-0 past c.in_ok-push-2.ensures.items c.in_ok-started.ensures
