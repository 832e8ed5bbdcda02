-- One number more is known.
use Rattle.std.proofs.Common.{get_or, refl, arith}
use Rattle.tree_check.proofs.OuterLaws.{one_known}
use Rattle.tree_check.proofs.outers.know.Goals as goal

pub loop-number-preserved : goal.loop-number-preserved
loop-number-preserved c =
    let l = c.loop-number in
    λ n. one_known n (get_or c.args.numbers.now l.number-index 0) l.number-index c.args.numbers.now c.args.known.now l.known c.add.new.self (omega arith) refl (l.invariant n) c.in_ok-add.ensures.now
