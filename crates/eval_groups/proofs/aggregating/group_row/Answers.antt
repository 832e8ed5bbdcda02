use Rattle.std.proofs.Common.{[], ◌∷◌, arith}
use Rattle.eval_groups.proofs.AggregateLaws.{as_many, aggregable_at, no_call_given, calls_more, calls_fault, calls_all}
use Rattle.eval_groups.proofs.aggregating.group_row.Goals as goal

pub loop-number-init : goal.loop-number-init
loop-number-init c = no_call_given c.args.rows.now.rows c.args.group.now c.args.calls.now c.args.arguments.now c.new-row.result c.new-row.ensures

pub bounds-arguments-number : goal.bounds-arguments-number
bounds-arguments-number c = let many = as_many c.args.rows.now (c.args.group.now ∷ []) c.args.calls.now c.args.arguments.now c.requires.calls in omega (arith, many, c.loop-number-test.true)

pub call_answer-requires-clause-call : goal.call_answer-requires-clause-call
call_answer-requires-clause-call c =
    aggregable_at c.args.rows.now (c.args.group.now ∷ []) c.args.calls.now c.args.arguments.now c.loop-number.number c.index-calls-number.result c.index-arguments-number.result c.as_slice.result.now (omega (arith, c.loop-number-test.true))
    c.index-calls-number.is c.index-arguments-number.is c.as_slice.ensures c.requires.calls

pub returns-in-Err : goal.returns-in-Err
returns-in-Err c =
    calls_fault c.args.rows.now.rows c.args.group.now c.args.calls.now c.args.arguments.now c.loop-number.number c.index-calls-number.result c.index-arguments-number.result c.as_slice.result.now c.in-Err.fault
    (omega (arith, c.loop-number-test.true)) (as_many c.args.rows.now (c.args.group.now ∷ []) c.args.calls.now c.args.arguments.now c.requires.calls) c.index-calls-number.is c.index-arguments-number.is c.as_slice.ensures c.in-Err.ensures

pub loop-number-preserved : goal.loop-number-preserved
loop-number-preserved c =
    calls_more c.args.rows.now.rows c.args.group.now c.args.calls.now c.args.arguments.now c.loop-number.number c.index-calls-number.result c.index-arguments-number.result c.as_slice.result.now c.loop-number.row c.push.new.self c.in-Ok.value
    (omega (arith, c.loop-number-test.true)) (as_many c.args.rows.now (c.args.group.now ∷ []) c.args.calls.now c.args.arguments.now c.requires.calls) c.index-calls-number.is c.index-arguments-number.is c.as_slice.ensures c.loop-number.invariant c.in-Ok.ensures
    c.in_ok-push-in-Ok.ensures.ok

pub returns : goal.returns
returns c =
    calls_all c.args.rows.now.rows c.args.group.now c.args.calls.now c.args.arguments.now c.loop-number.number c.loop-number.row (omega (arith, c.loop-number-test.false)) (as_many c.args.rows.now (c.args.group.now ∷ []) c.args.calls.now c.args.arguments.now c.requires.calls)
    c.loop-number.invariant
