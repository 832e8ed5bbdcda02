use Rattle.std.proofs.Common.{List, ◌++◌, [], Ok, length, take, ap, sym, subst, ◌∙◌}
use Rattle.sql_types.specs.Joined.{Row}
use Rattle.eval_rows.specs.Joins.{TestGives, Joins}
use Rattle.eval_rows.specs.Met.{from_unmet}
use Rattle.eval_rows.proofs.JoinLaws.{JoinedSo, none_joined, as_many, joined_step, all_joined}
use Rattle.eval_rows.proofs.joining.join_lists.Goals as goal

pub loop-left-init : goal.loop-left-init
loop-left-init g c =
    let gives = TestGives g.P.Fn c.args.test.now in
    subst (λ (rows : List Row). JoinedSo gives c.args.kind c.args.right_width c.args.rights.now [] rows c.in_ok-had.had) (sym c.new-rows.ensures)
    (none_joined gives c.args.kind c.args.right_width c.args.rights.now c.args.lefts.now c.in_ok-had.had c.in_ok-had.ensures)

pub note_met-had-requires : goal.note_met-had-requires
note_met-had-requires g c =
    as_many (TestGives g.P.Fn c.args.test.now) c.args.kind c.args.right_width c.args.rights.now (take c.loop-left.left-index c.args.lefts.now) c.loop-left.rows c.loop-left.had c.as_slice.result.now c.in-Ok.kept c.loop-left.invariant c.in-Ok.ensures
    ∙ ap length (sym c.as_slice-in-Ok-4.ensures)

pub loop-left-preserved : goal.loop-left-preserved
loop-left-preserved g c =
    joined_step (TestGives g.P.Fn c.args.test.now) c.args.kind c.args.right_width c.args.rights.now c.args.lefts.now c.loop-left.rows c.loop-left.had c.loop-left.left-index
    c.left-item.result c.as_slice.result.now c.as_slice-in-Ok.result.now c.as_slice-in-Ok-3.result.now c.in-Ok.kept c.as_slice-in-Ok-2.result.now c.as_slice-in-Ok-4.result.now
    c.in_ok-own-in-Ok.own c.in_ok-padded_right-in-Ok.field-0 c.append.new.self c.note_met-had.result
    c.loop-left-test.true c.left-item.is c.as_slice.ensures c.as_slice-in-Ok.ensures c.as_slice-in-Ok-3.ensures c.as_slice-in-Ok-2.ensures c.as_slice-in-Ok-4.ensures
    c.in_ok-own-in-Ok.ensures c.in_ok-padded_right-in-Ok.ensures c.in_ok-append-in-Ok.ensures c.note_met-had.ensures c.loop-left.invariant c.in-Ok.ensures

pub returns : goal.returns
returns g c =
    let gives = TestGives g.P.Fn c.args.test.now in
    let rights = c.args.rights.now in
    subst (λ (rows : List Row). Joins gives c.args.kind c.args.left_width c.args.right_width c.args.lefts.now rights (Ok rows))
    (sym (c.in_ok-append.ensures ∙ ap (λ (z : List Row). c.loop-left.rows ++ z) (c.in_ok-rows_from_right.ensures ∙ ap (from_unmet c.args.kind c.args.left_width rights) c.as_slice-2.ensures)))
    (all_joined gives c.args.kind c.args.right_width rights c.args.left_width c.args.lefts.now c.loop-left.rows c.loop-left.had c.loop-left.left-index c.loop-left-test.false c.loop-left.invariant)
