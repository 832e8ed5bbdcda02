use Rattle.small_catalog.proofs.ViewLaws.{is_empty-items_view}
use Rattle.small_catalog.proofs.catalog.is_empty_at.Goals as goal

pub returns-in-Some : goal.returns-in-Some
returns-in-Some c = rw (← c.in-Some.ensures, is_empty-items_view) c.is_empty.ensures
