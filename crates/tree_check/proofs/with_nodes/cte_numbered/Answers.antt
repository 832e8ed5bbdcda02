-- One query less is left, or it is the one.
use Rattle.std.proofs.Common.{◌-◌, sym, ◌∙◌, arith}
use Rattle.tree_check.proofs.CteLaws.{found_cte, passed_cte}
use Rattle.tree_check.proofs.with_nodes.cte_numbered.Goals as goal

pub returns-then-cte-number : goal.returns-then-cte-number
returns-then-cte-number c =
    let l = c.loop-left in
    sym (found_cte c.args.ctes.now (l.left - 1) l.left c.index-ctes-left.result c.args.number (omega arith) (omega arith) c.index-ctes-left.is (grind arith))
    ∙ l.invariant.same

pub loop-left-preserved : goal.loop-left-preserved
loop-left-preserved c =
    let l = c.loop-left in
    record {
      most = omega arith;
      same = sym (passed_cte c.args.ctes.now (l.left - 1) l.left c.index-ctes-left.result c.args.number (omega arith) (omega arith) c.index-ctes-left.is (grind arith)) ∙ l.invariant.same;
    }
