-- The items so far tell nothing apart.
use Rattle.std.proofs.Common.{◌≡◌, drop}
use Rattle.sql_types.specs.Sorting.{whole_rows_order}
use Rattle.sql_types.proofs.sorting.sorting_order.Given as goal

abbrev pub invariant-loop-item : goal.invariant-loop-item
invariant-loop-item l = whole_rows_order (drop l.item-index l.items) l.left l.right ≡ whole_rows_order l.items l.left l.right
