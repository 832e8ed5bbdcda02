use Rattle.small_catalog.proofs.CatalogLaws.{catalog_of-small}
use Rattle.small_catalog.proofs.laws.small_catalogs_have_small_tables.Goals as goal

pub returns : goal.returns
returns c = catalog_of-small c.args.bytes.now
