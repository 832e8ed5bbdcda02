-- What is in order at a node, as the code holds it.
use Rattle.resolved_ast.specs.Flaws as flaws
use Rattle.tree_check.specs.declared.order.Order.{Order}

abbrev pub order_of : Order → flaws.Order
order_of order = record { ids = order.ids; seen = order.seen; outers = order.outers; typed = order.typed; shaped = order.shaped }
