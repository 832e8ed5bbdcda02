-- Each row is left as often as it stands in each of the tables so far.
use Rattle.std.proofs.Common.{◌≡◌, take, map}
use Rattle.sql_types.specs.Combined.{least}
use Rattle.sql_types.specs.Joined.{Row}
use Rattle.eval_rows.specs.Counts.{shown, rows_of, count, AllWhole}
use Rattle.eval_rows.proofs.set_parts.in_each.Given as goal

abbrev pub invariant-loop-operand : goal.invariant-loop-operand
invariant-loop-operand l = record {
  whole : AllWhole l.columns (shown l.list.items);
  counts : (row : Row) → count row (shown l.list.items) ≡ least (count row (shown l.fn.list.items)) (map (count row) (map rows_of (take l.operand-index l.operands)));
}
