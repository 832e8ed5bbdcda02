use Rattle.std.proofs.Common.{Bool, List, ◌+◌, Ok, take, sym, subst}
use Rattle.sql_types.specs.Joined.{Row}
use Rattle.eval_rows.specs.Joins.{TestGives, Answered}
use Rattle.eval_rows.proofs.JoinLaws.{answered_more}
use Rattle.eval_rows.proofs.joining.answers.Goals as goal

pub loop-right-preserved : goal.loop-right-preserved
loop-right-preserved g c =
    let gives = TestGives g.P.Fn c.args.test.now in
    let left = c.args.left.now in
    let rights = c.args.rights.now in
    let i = c.loop-right.right-index in
    let keep = c.in-Ok.keep in
    subst (λ (kept : List Bool). Answered gives left (take (i + 1) rights) (Ok kept)) (sym c.in_ok-push-in-Ok.ensures.ok)
    (answered_more gives left rights i c.right-item.result c.loop-right.kept keep c.loop-right-test.true c.right-item.is c.loop-right.invariant
    (subst (λ (right : Row). gives left right (Ok keep)) c.as_slice.ensures c.in-Ok.ensures))
