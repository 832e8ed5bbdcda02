-- What the values left say, all values say.
use Rattle.std.proofs.Common.{◌≡◌, drop}
use Rattle.sql_aggregates.specs.Identity.{identity_order_of_rows}
use Rattle.sql_aggregates.proofs.identity.+identity.Given as goal

abbrev pub invariant-row_order-loop-value : goal.invariant-row_order-loop-value
invariant-row_order-loop-value l = identity_order_of_rows (drop l.value-index l.left) l.rest ≡ identity_order_of_rows l.left l.right
