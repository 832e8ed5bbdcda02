use Rattle.std.proofs.Common.{arith}
use Rattle.sql_builtins.proofs.FilledLaws.{more_last}
use Rattle.tree_check.proofs.places.filled.Goals as goal

pub loop-last-preserved : goal.loop-last-preserved
loop-last-preserved c = record {
  least = omega (arith, c.in_ok-push.ensures.len);
  most = omega (arith, c.in_ok-push.ensures.len);
  same = more_last c.args.slots.now c.loop-last.places.items c.push.new.self.items c.args.last _ _ c.loop-last.invariant.same c.in_ok-push.ensures.items (omega (arith, c.in_ok-push.ensures.len));
}
