use Rattle.std.proofs.Common.{position, ap, ◌∙◌}
use Rattle.sql_catalog.specs.Slots.{goes_by}
use Rattle.sql_catalog.proofs.SlotLaws.{position-held}
use Rattle.sql_catalog.proofs.by_name.ByName.find.Goals as goal

pub returns : goal.returns
returns g c =
    c.get_index_of.ensures.index
    ∙ position-held _ c.self.inside.slots.keys c.self.invariant
    ∙ ap (position (goes_by g.T.Called.called g.T.Called.sort c.args.name.now c.args.is_function)) c.self.view_is
