use Rattle.std.proofs.Common.{ap, ◌∙◌}
use Rattle.std.specs.List.{list_any}
use Rattle.sql_catalog.specs.Slots.{goes_by}
use Rattle.sql_catalog.proofs.SlotLaws.{list_any-held}
use Rattle.sql_catalog.proofs.by_name.ByName.has.Goals as goal

pub returns : goal.returns
returns g c =
    c.contains.ensures
    ∙ list_any-held _ c.self.inside.slots.keys c.self.invariant
    ∙ ap (list_any (goes_by g.T.Called.called g.T.Called.sort c.args.name.now c.args.is_function)) c.self.view_is
