-- What is left are the others without the rows so far, and of these the ones with or without a partner are kept.
use Rattle.std.proofs.Common.{◌≡◌, ◌-◌, take}
use Rattle.sql_types.specs.Joined.{Row}
use Rattle.eval_rows.specs.ByClass.{by_class}
use Rattle.eval_rows.specs.Counts.{shown, count, count_partnered}
use Rattle.eval_rows.proofs.set_parts.partnered.Given as goal

abbrev pub invariant-loop-row : goal.invariant-loop-row
invariant-loop-row l = record {
  columns : l.left.columns.now ≡ l.columns;
  left : (row : Row) → by_class 0 l.left.rows l.left.left.items row ≡ count row (shown l.fn.others) - count row (shown (take l.row-index l.list));
  kept : (row : Row) → count row (shown l.kept.items) ≡ count_partnered l.wanted (count row (shown (take l.row-index l.list))) (count row (shown l.fn.others));
}
