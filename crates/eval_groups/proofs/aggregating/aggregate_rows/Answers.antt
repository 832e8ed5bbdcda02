use Rattle.std.proofs.Common.{◌≡◌, List, length, get_or, ap, ◌∙◌, subst, arith}
use Rattle.eval_groups.specs.declared.groups.Group.{Group}
use Rattle.eval_groups.proofs.AggregateLaws.{members_at, over_one, over_none, answer_row_fits, nothing_given, groups_more, groups_fault, groups_all}
use Rattle.eval_groups.proofs.aggregating.aggregate_rows.Goals as goal

pub loop-group-init : goal.loop-group-init
loop-group-init c = record {
  columns = c.start-answer.ensures.columns ∙ c.in_ok-columns.ensures;
  each = nothing_given c.args.rows.now c.args.calls.now c.args.arguments.now c.args.groups.now c.start-answer.result.rows c.start-answer.ensures.rows;
}

pub group_row-requires-clause-members : goal.group_row-requires-clause-members
group_row-requires-clause-members c =
    let items : c.as_slice-group-items.result.now ≡ c.args.groups.now = c.as_slice-group-items.ensures in
    members_at c.args.rows.now c.args.groups.now c.loop-group.group-index c.group-item.result c.requires.members (omega (arith, ap length items, c.loop-group-test.true))
    (subst (λ (z : List Group). c.group-item.result ≡ get_or z c.loop-group.group-index c.group-item.result) items c.group-item.is)

pub answer_columns-requires : goal.answer_columns-requires
answer_columns-requires c = over_none c.args.rows.now c.args.groups.now c.args.calls.now c.args.arguments.now c.requires.calls

pub group_row-requires-clause-calls : goal.group_row-requires-clause-calls
group_row-requires-clause-calls c =
    let items : c.as_slice-group-items.result.now ≡ c.args.groups.now = c.as_slice-group-items.ensures in
    over_one c.args.rows.now c.args.groups.now c.args.calls.now c.args.arguments.now c.loop-group.group-index c.group-item.result (omega (arith, ap length items, c.loop-group-test.true))
    (subst (λ (z : List Group). c.group-item.result ≡ get_or z c.loop-group.group-index c.group-item.result) items c.group-item.is) c.requires.calls

pub add-requires : goal.add-requires
add-requires c =
    let items : c.as_slice-group-items.result.now ≡ c.args.groups.now = c.as_slice-group-items.ensures in
    answer_row_fits c.args.rows.now c.args.groups.now c.args.calls.now c.args.arguments.now c.loop-group.answer.columns c.loop-group.group-index c.group-item.result c.in-Ok.row c.requires.calls
    c.loop-group.invariant.columns (omega (arith, ap length items, c.loop-group-test.true)) (subst (λ (z : List Group). c.group-item.result ≡ get_or z c.loop-group.group-index c.group-item.result) items c.group-item.is) c.in-Ok.ensures

pub returns-in-Err : goal.returns-in-Err
returns-in-Err c =
    let items : c.as_slice-group-items.result.now ≡ c.args.groups.now = c.as_slice-group-items.ensures in
    groups_fault c.args.rows.now c.args.calls.now c.args.arguments.now c.args.groups.now c.loop-group.group-index c.group-item.result c.in-Err.fault (omega (arith, ap length items, c.loop-group-test.true))
    (subst (λ (z : List Group). c.group-item.result ≡ get_or z c.loop-group.group-index c.group-item.result) items c.group-item.is) c.in-Err.ensures

pub loop-group-preserved : goal.loop-group-preserved
loop-group-preserved c =
    let items : c.as_slice-group-items.result.now ≡ c.args.groups.now = c.as_slice-group-items.ensures in
    record {
      columns = c.in_ok-add-in-Ok.ensures.columns ∙ c.loop-group.invariant.columns;
      each =
          groups_more c.args.rows.now c.args.calls.now c.args.arguments.now c.args.groups.now c.loop-group.group-index c.group-item.result c.loop-group.answer.rows c.add.new.self.rows c.in-Ok.row
          (omega (arith, ap length items, c.loop-group-test.true)) (subst (λ (z : List Group). c.group-item.result ≡ get_or z c.loop-group.group-index c.group-item.result) items c.group-item.is)
          c.loop-group.invariant.each c.in-Ok.ensures c.in_ok-add-in-Ok.ensures.ok;
    }

pub returns : goal.returns
returns c =
    let items : c.as_slice-group-items.result.now ≡ c.args.groups.now = c.as_slice-group-items.ensures in
    (c.loop-group.invariant.columns, groups_all c.args.rows.now c.args.calls.now c.args.arguments.now c.args.groups.now c.loop-group.group-index c.loop-group.answer.rows (omega (arith, ap length items, c.loop-group-test.false)) c.loop-group.invariant.each)
