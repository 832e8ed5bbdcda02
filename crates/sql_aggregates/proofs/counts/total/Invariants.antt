-- The total so far and that of the values that are left is the whole, and it isn't further from 0 than so many values can
-- take it.
use Rattle.std.proofs.Common.{◌≡◌, ◌*◌, pos, ◌+ℤ◌, ◌≤ℤ◌, drop}
use Rattle.sql_aggregates.specs.Aggregates as rows
use Rattle.sql_aggregates.proofs.counts.total.Given as goal

abbrev pub invariant-loop-value : goal.invariant-loop-value
invariant-loop-value l = record {
  whole : l.total +ℤ rows.total (drop l.value-index l.values) ≡ rows.total l.values;
  above : pos 0 ≤ℤ (l.total +ℤ pos (l.value-index * 18446744073709551616));
  below : l.total ≤ℤ pos (l.value-index * 18446744073709551616);
}
