-- What the calls so far answer.
use Rattle.std.proofs.Common.{take}
use Rattle.sql_types.specs.Outcome.{EachGives}
use Rattle.eval_groups.specs.Aggregated.{calls_mean}
use Rattle.eval_groups.proofs.aggregating.group_row.Given as goal

abbrev pub invariant-loop-number : goal.invariant-loop-number
invariant-loop-number l = EachGives (calls_mean l.rows.rows (take l.number l.calls) (take l.number l.arguments) l.group) l.row
