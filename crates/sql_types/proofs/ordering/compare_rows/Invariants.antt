-- The items so far tell nothing apart.
use Rattle.std.proofs.Common.{◌≡◌, drop}
use Rattle.sql_types.specs.Before.{rows_order}
use Rattle.sql_types.proofs.ordering.compare_rows.Given as goal

abbrev pub invariant-loop-item : goal.invariant-loop-item
invariant-loop-item l = rows_order (drop l.item-index l.items) l.left l.right ≡ rows_order l.items l.left l.right
