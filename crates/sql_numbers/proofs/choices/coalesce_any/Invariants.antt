-- Each value so far is NULL.
use Rattle.std.proofs.Common.{◌≡◌, drop}
use Rattle.sql_numbers.specs.Comparisons as rows
use Rattle.sql_numbers.proofs.choices.coalesce_any.Given as goal

abbrev pub invariant-loop-value : goal.invariant-loop-value
invariant-loop-value l = rows.apply_coalesce (drop l.value-index l.values) ≡ rows.apply_coalesce l.values
