use Rattle.std.proofs.Common.{◌<◌, length, slice_get, Some, option_and_then, ap, sym, subst, ◌∙◌}
use Rattle.sql_catalog.proofs.SlotLaws.{length-held, slice_get-held, holding, IsHeld-slice_get}
use Rattle.sql_catalog.proofs.by_name.ByName.at.Goals as goal

pub index-requires : goal.index-requires
index-requires g c = subst (λ n. c.args.number < n) (ap length (sym c.self.view_is) ∙ length-held c.self.inside.slots.keys c.self.invariant) c.requires

pub unreachable-requires : goal.unreachable-requires
unreachable-requires g c = IsHeld-slice_get c.self.inside.slots.keys c.args.number _ c.self.invariant (c.index.ensures ∙ ap Some c.in-Sought.is)

pub returns : goal.returns
returns g c =
    ap (λ entries. slice_get entries c.args.number) (sym c.self.view_is)
    ∙ slice_get-held c.self.inside.slots.keys c.args.number c.self.invariant
    ∙ ap (option_and_then holding) (c.index.ensures ∙ ap Some c.in-Held.is)
