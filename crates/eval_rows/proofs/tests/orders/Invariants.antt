-- What the items left say, all items say.
use Rattle.std.proofs.Common.{◌≡◌, drop}
use Rattle.sql_types.specs.Sorting.{orders_columns}
use Rattle.eval_rows.proofs.tests.orders.Given as goal

abbrev pub invariant-loop-item : goal.invariant-loop-item
invariant-loop-item l = orders_columns l.columns (drop l.item-index l.items) ≡ orders_columns l.columns l.items
