-- Each value so far is TRUE.
use Rattle.std.proofs.Common.{◌≡◌, drop}
use Rattle.sql_aggregates.specs.Aggregates as rows
use Rattle.sql_aggregates.proofs.truths.all_of.Given as goal

abbrev pub invariant-loop-value : goal.invariant-loop-value
invariant-loop-value l = rows.all_of (drop l.value-index l.values) ≡ rows.all_of l.values
