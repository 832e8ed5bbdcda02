-- The one chosen so far, beside those that are left.
use Rattle.std.proofs.Common.{◌≡◌, drop}
use Rattle.sql_aggregates.specs.Aggregates as rows
use Rattle.sql_aggregates.proofs.extremes.greatest.Given as goal

abbrev pub invariant-loop-value : goal.invariant-loop-value
invariant-loop-value l = rows.best rows.greater l.chosen (drop l.value-index l.rest) ≡ rows.best rows.greater l.first l.rest
