use Rattle.std.proofs.Common.{sym, subst, ap, ◌∙◌}
use Rattle.sql_aggregates.specs.Lists.{kept}
use Rattle.sql_aggregates.specs.Sortable.{Sortable}
use Rattle.sql_types.specs.Arranged.{Arranged}
use Rattle.sql_aggregates.proofs.MeansLaws.{still_sortable, goes_over_stages}
use Rattle.sql_aggregates.proofs.choosing.goes_over.Goals as goal

pub arrange-arranged-requires : goal.arrange-arranged-requires
arrange-arranged-requires c =
    subst (λ items. Sortable items c.choose-chosen.result.items) (sym c.as_slice.ensures)
    (still_sortable c.args.call.now c.args.lists.items c.keep-left.result.items c.choose-chosen.result.items c.requires
    (c.keep-left.ensures ∙ ap (λ b. kept b c.args.lists.items) c.skips_nulls.ensures) c.choose-chosen.ensures)

pub returns : goal.returns
returns c =
    goes_over_stages c.args.call.now c.args.lists.items c.keep-left.result.items c.choose-chosen.result.items c.arrange-arranged.result.items _
    (c.keep-left.ensures ∙ ap (λ b. kept b c.args.lists.items) c.skips_nulls.ensures) c.choose-chosen.ensures
    (subst (λ items. Arranged items c.choose-chosen.result.items c.arrange-arranged.result.items) c.as_slice.ensures c.arrange-arranged.ensures) c.limit.ensures
