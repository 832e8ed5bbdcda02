-- The groups so far are aggregated.
use Rattle.std.proofs.Common.{◌≡◌, map, take}
use Rattle.sql_types.specs.Outcome.{EachGives}
use Rattle.eval_groups.specs.Aggregated.{column_types, answer_columns}
use Rattle.eval_groups.proofs.AggregateLaws.{RowMeans}
use Rattle.eval_groups.proofs.aggregating.aggregate_rows.Given as goal

abbrev pub invariant-loop-group : goal.invariant-loop-group
invariant-loop-group l = record {
  columns : l.answer.columns ≡ answer_columns (column_types l.rows) l.calls l.arguments;
  each : EachGives (map (RowMeans l.rows l.calls l.arguments) (take l.group-index l.groups)) l.answer.rows;
}
