-- The rows that are kept are those that were seen, and each of the rows so far is among them once.
use Rattle.std.proofs.Common.{◌≡◌, take}
use Rattle.sql_types.specs.Combined.{at_most_one}
use Rattle.sql_types.specs.Joined.{Row}
use Rattle.eval_rows.specs.Counts.{shown, count}
use Rattle.eval_rows.proofs.set_parts.once.Given as goal

abbrev pub invariant-loop-row : goal.invariant-loop-row
invariant-loop-row l = record {
  kept : shown l.kept.items ≡ l.seen;
  counts : (row : Row) → count row l.seen ≡ at_most_one (count row (shown (take l.row-index l.list)));
}
