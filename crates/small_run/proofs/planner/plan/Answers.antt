use Rattle.std.proofs.Common.{sym}
use Rattle.small_run.proofs.Whole.{forms_refused, brackets_refused, query_by_select, made_ok, made_other}
use Rattle.small_run.proofs.planner.plan.Goals as goal

pub returns-then-not-is_plain_query : goal.returns-then-not-is_plain_query
returns-then-not-is_plain_query c = record { planned = tt; other = λ is. forms_refused c.args.table.now c.args.query.now (sym c.if-not-is_plain_query.ensures) }

pub returns-in-Some : goal.returns-in-Some
returns-in-Some c =
    let made = query_by_select c.args.table.now c.args.query.now c.in-Some.select.now c.select_plan.result (sym c.if-not-is_plain_query.ensures) c.in-Some.ensures c.select_plan.ensures in
    record { planned = made_ok c.args.table.now c.args.query.now c.select_plan.result made; other = made_other c.args.table.now c.args.query.now c.select_plan.result made }

pub returns-in-None : goal.returns-in-None
returns-in-None c = record { planned = tt; other = λ is. brackets_refused c.args.table.now c.args.query.now c.in-None.ensures }
