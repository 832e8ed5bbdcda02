use Rattle.std.proofs.Common.{List, ◌∙◌, take, ap, arith}
use Rattle.std.proofs.lemmas.List.{take_all}
use denote.Ref.{Bor}
use Rattle.sql_types.specs.Joined.{Row}
use Rattle.eval_rows.specs.ByClass.{by_class}
use Rattle.eval_rows.specs.Counts.{shown, count, is_whole}
use Rattle.eval_rows.proofs.CountLaws.{whole_at, fewer_pass}
use Rattle.eval_rows.proofs.PartnerLaws.{kept_more, left_out_more, none_left, less_left, partnered_fewer}
use Rattle.eval_rows.proofs.set_parts.partnered.Goals as goal
use Rattle.eval_rows.proofs.set_parts.partnered.Goals.{then-take-wanted+in_ok-push, else-take-wanted}

pub take-requires : goal.take-requires
take-requires c =
    ap (λ z. is_whole z c.row-item.result.now) c.loop-row.invariant.columns ∙ whole_at (is_whole c.args.columns.now) c.args.list.now c.loop-row.row-index c.row-item.result c.requires.list c.loop-row-test.true c.row-item.is

pub loop-row-preserved : goal.loop-row-preserved
loop-row-preserved c =
    let list = c.args.list.now in
    let others = shown c.args.others.now in
    let i = c.loop-row.row-index in
    let b = c.row-item.result in
    let before = c.loop-row.left in
    let left = λ (row : Row). by_class 0 before.rows before.left.items row in
    let none = none_left (left b.now) c.take.result c.take.ensures.found.1 in
    record {
      columns = ap (λ z. z.now) c.take.ensures.columns ∙ c.loop-row.invariant.columns;
      left = λ row. less_left list others i b row (left row) _ c.loop-row-test.true c.row-item.is (c.loop-row.invariant.left row) (c.take.ensures.left row);
      kept =
          elim c.if-take-wanted.branch [
            | then-take-wanted+in_ok-push w ↦
                kept_more c.args.wanted c.take.result list others i b left c.loop-row.kept.items c.if-take-wanted.kept.items c.loop-row-test.true c.row-item.is c.loop-row.invariant.left c.take.ensures.found.0 none
                w.if-take-wanted.true (ap (λ z. z.items) w.kept-is ∙ w.in_ok-push.ensures.items) c.loop-row.invariant.kept
            | else-take-wanted w ↦
                left_out_more c.args.wanted c.take.result list others i b left c.loop-row.kept.items c.if-take-wanted.kept.items c.loop-row-test.true c.row-item.is c.loop-row.invariant.left c.take.ensures.found.0 none
                w.if-take-wanted.false (ap (λ z. z.items) w.kept-is) c.loop-row.invariant.kept
          ];
    }

pub returns-clause-whole : goal.returns-clause-whole
returns-clause-whole c =
    let list = c.args.list.now in
    let i = c.loop-row.row-index in
    fewer_pass (is_whole c.args.columns.now) (shown list) (shown c.loop-row.kept.items)
    (λ row. omega (arith, partnered_fewer c.args.wanted (count row (shown (take i list))) (count row (shown c.args.others.now)) (count row (shown c.loop-row.kept.items)) (c.loop-row.invariant.kept row), ap (λ (z : List (Bor Row)). count row (shown z)) (take_all i list c.loop-row-test.false)))
    c.requires.list
