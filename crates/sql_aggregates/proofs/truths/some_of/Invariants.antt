-- No value so far is TRUE.
use Rattle.std.proofs.Common.{◌≡◌, drop}
use Rattle.sql_aggregates.specs.Aggregates as rows
use Rattle.sql_aggregates.proofs.truths.some_of.Given as goal

abbrev pub invariant-loop-value : goal.invariant-loop-value
invariant-loop-value l = rows.some_of (drop l.value-index l.values) ≡ rows.some_of l.values
