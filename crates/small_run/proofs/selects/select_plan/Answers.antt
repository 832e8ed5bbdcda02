use Rattle.std.proofs.Common.{sym, ap, ◌∙◌, Some}
use Rattle.small_run.proofs.Whole.{parts_refused, from_missing, where_missing, select_by_parts}
use Rattle.small_run.proofs.selects.select_plan.Goals as goal

pub returns-then-not-is_plain_select : goal.returns-then-not-is_plain_select
returns-then-not-is_plain_select c = parts_refused c.args.table.now c.args.select.now (sym c.if-not-is_plain_select.ensures)

pub returns-in_default : goal.returns-in_default
returns-in_default c = from_missing c.args.table.now c.args.select.now c.in_default.is

pub returns-in_default-filter : goal.returns-in_default-filter
returns-in_default-filter c = where_missing c.args.table.now c.args.select.now c.in-Some.from c.in-Some.is c.in_default-filter.is

pub returns : goal.returns
returns c =
    select_by_parts c.args.table.now c.args.select.now c.get.result.now c.get-2.result.now c.as_slice.result.now (sym c.if-not-is_plain_select.ensures)
    (c.in-Some.is ∙ ap Some (sym c.get.ensures)) (c.in-Some-filter.is ∙ ap Some (sym c.get-2.ensures)) c.as_slice.ensures
    c.parts_plan.result c.parts_plan.ensures
