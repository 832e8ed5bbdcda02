-- The columns of the calls so far.
use Rattle.std.proofs.Common.{◌≡◌, take}
use Rattle.eval_groups.specs.Aggregated.{column_types, answer_columns}
use Rattle.eval_groups.proofs.aggregating.answer_columns.Given as goal

abbrev pub invariant-loop-number : goal.invariant-loop-number
invariant-loop-number l = l.columns ≡ answer_columns (column_types l.rows) (take l.number l.calls) (take l.number l.arguments)
