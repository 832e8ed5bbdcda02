use Rattle.eval_groups.proofs.TestLaws.{joins_allowed}
use Rattle.eval_groups.proofs.separator_tests.joined.Goals as goal

pub aggregate_rows-requires-clause-calls : goal.aggregate_rows-requires-clause-calls
aggregate_rows-requires-clause-calls c =
    joins_allowed c.args.rows.now c.args.groups.now c.requires.members c.requires.columns c.in_ok-join.field-0 c.in_ok-arguments.arguments c.as_slice.result.now c.requires.separators c.in_ok-join.ensures c.as_slice.ensures c.in_ok-arguments.ensures
