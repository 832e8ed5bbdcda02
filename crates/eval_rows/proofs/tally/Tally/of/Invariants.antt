-- The rows so far are counted.
use Rattle.std.proofs.Common.{◌≡◌, take, length}
use Rattle.sql_types.specs.Joined.{Row}
use Rattle.eval_rows.specs.ByClass.{by_class}
use Rattle.eval_rows.specs.Counts.{shown, count}
use Rattle.eval_rows.proofs.tally.Tally.of.Given as goal

abbrev pub invariant-loop-row : goal.invariant-loop-row
invariant-loop-row l = record {
  as_many : length l.left.items ≡ length l.rows;
  counts : (row : Row) → by_class 0 l.rows l.left.items row ≡ count row (shown (take l.row-index l.list));
}
