use Rattle.std.proofs.Common.{sym}
use Rattle.small_catalog.proofs.ViewLaws.{only_item-none}
use Rattle.small_catalog.proofs.catalog.only_item.Goals as goal

pub returns-else-items-eq1 : goal.returns-else-items-eq1
returns-else-items-eq1 c = sym (only_item-none c.args.items.now c.if-items-eq1.false)
