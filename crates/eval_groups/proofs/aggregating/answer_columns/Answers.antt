use Rattle.std.proofs.Common.{[], arith}
use Rattle.eval_groups.specs.Aggregated.{column_types}
use Rattle.eval_groups.proofs.AggregateLaws.{as_many, aggregable_at, columns_more, columns_all}
use Rattle.eval_groups.proofs.aggregating.answer_columns.Goals as goal

pub bounds-arguments-number : goal.bounds-arguments-number
bounds-arguments-number c = let many = as_many c.args.rows.now [] c.args.calls.now c.args.arguments.now c.requires in omega (arith, many, c.loop-number-test.true)

pub call_type-requires : goal.call_type-requires
call_type-requires c =
    (aggregable_at c.args.rows.now [] c.args.calls.now c.args.arguments.now c.loop-number.number c.index-calls-number.result c.index-arguments-number.result c.as_slice.result.now (omega (arith, c.loop-number-test.true))
    c.index-calls-number.is c.index-arguments-number.is c.as_slice.ensures c.requires).within

pub loop-number-preserved : goal.loop-number-preserved
loop-number-preserved c =
    columns_more (column_types c.args.rows.now) c.args.calls.now c.args.arguments.now c.loop-number.number c.index-calls-number.result c.index-arguments-number.result c.as_slice.result.now c.in_ok-ty.ty c.loop-number.columns c.push.new.self
    (omega (arith, c.loop-number-test.true)) (as_many c.args.rows.now [] c.args.calls.now c.args.arguments.now c.requires) c.index-calls-number.is c.index-arguments-number.is c.as_slice.ensures c.in_ok-ty.ensures c.loop-number.invariant c.in_ok-push.ensures.ok

pub returns : goal.returns
returns c =
    columns_all (column_types c.args.rows.now) c.args.calls.now c.args.arguments.now c.loop-number.number c.loop-number.columns (omega (arith, c.loop-number-test.false)) (as_many c.args.rows.now [] c.args.calls.now c.args.arguments.now c.requires) c.loop-number.invariant
