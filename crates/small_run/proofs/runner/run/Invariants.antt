-- The answer so far is that of the rows so far.
use Rattle.std.proofs.Common.{◌≡◌, take}
use Rattle.small_run.specs.Plans as plans
use Rattle.small_run.proofs.runner.run.Given as goal

abbrev pub invariant-loop-row : goal.invariant-loop-row
invariant-loop-row l = record {
  columns : l.answer.columns ≡ l.plan.columns;
  rows : l.answer.rows ≡ plans.answers l.plan (take l.row-index l.rows.rows);
}
