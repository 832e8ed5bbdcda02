-- The one chosen so far, beside those that are left.
use Rattle.std.proofs.Common.{◌≡◌, drop}
use Rattle.sql_numbers.specs.Comparisons as rows
use Rattle.sql_numbers.proofs.extremes.least.Given as goal

abbrev pub invariant-loop-value : goal.invariant-loop-value
invariant-loop-value l = rows.chosen rows.lesser_of l.chosen (drop l.value-index l.rest) ≡ rows.chosen rows.lesser_of l.first l.rest
