use Rattle.sql_catalog.proofs.NameLaws.{TakenOnce-none}
use Rattle.sql_catalog.proofs.catalog.Catalog.start.Goals as goal

pub invariant_of-result : goal.invariant_of-result
invariant_of-result c = TakenOnce-none c.start.result c.start-2.result c.start-3.result c.start.ensures c.start-2.ensures c.start-3.ensures
