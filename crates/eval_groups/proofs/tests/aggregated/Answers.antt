use Rattle.eval_groups.proofs.TestLaws.{calls_allowed}
use Rattle.eval_groups.proofs.tests.aggregated.Goals as goal

pub aggregate_rows-requires-clause-calls : goal.aggregate_rows-requires-clause-calls
aggregate_rows-requires-clause-calls c =
    calls_allowed c.args.rows.now c.args.groups.now c.requires.members c.requires.columns c.plain.result c.plain-2.result c.plain-3.result c.plain-4.result c.plain-5.result c.in_ok-ordered.field-0 c.in_ok-arguments.arguments c.as_slice.result.now
    c.plain.ensures c.plain-2.ensures c.plain-3.ensures c.plain-4.ensures c.plain-5.ensures c.in_ok-ordered.ensures c.as_slice.ensures c.in_ok-arguments.ensures
