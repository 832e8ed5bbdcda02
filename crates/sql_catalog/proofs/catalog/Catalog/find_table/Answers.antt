use Rattle.std.proofs.Common.{◌≡◌, true, false, sym, subst, ◌∙◌}
use Rattle.std.specs.Prelude.{Some}
use Rattle.sql_catalog.specs.Names.{is_view_at}
use Rattle.sql_catalog.proofs.NameLaws.{position-sort}
use Rattle.sql_catalog.proofs.catalog.Catalog.find_table.Goals as goal

pub returns-clause-there : goal.returns-clause-there
returns-clause-there c =
    subst (λ e. is_view_at e c.in_ok-number.number ≡ Some true) c.self.view_is
    (position-sort c.args.name.now false c.self.inside.definitions (Some c.in_ok-number.number) (sym c.in_ok-number.was ∙ c.find-2.ensures))
