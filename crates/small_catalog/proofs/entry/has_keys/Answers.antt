use Rattle.std.proofs.Common.{rules}
use Rattle.small_catalog.proofs.ViewLaws.{count-members_view}
use Rattle.small_catalog.proofs.entry.has_keys.Goals as goal

pub returns-in-Some : goal.returns-in-Some
returns-in-Some c = rw (← c.in-Some.ensures, count-members_view, ← c.len.ensures.len) (search rules)
