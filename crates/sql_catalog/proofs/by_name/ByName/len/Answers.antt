use Rattle.std.proofs.Common.{length, ap, sym, ◌∙◌}
use Rattle.sql_catalog.proofs.SlotLaws.{length-held}
use Rattle.sql_catalog.proofs.by_name.ByName.len.Goals as goal

pub returns : goal.returns
returns g c = c.len.ensures.len ∙ sym (length-held c.self.inside.slots.keys c.self.invariant) ∙ ap length c.self.view_is
