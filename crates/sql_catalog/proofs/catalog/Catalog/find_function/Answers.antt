use Rattle.std.proofs.Common.{◌≡◌, true, position, ap, ◌∙◌, subst}
use Rattle.std.specs.Prelude.{Some, false, IfSome}
use Rattle.sql_catalog.specs.Names.{find_function, is_view_at}
use Rattle.sql_catalog.proofs.NameLaws.{goes_by-function, position-sort}
use Rattle.sql_catalog.proofs.catalog.Catalog.find_function.Goals as goal

pub returns-clause-found : goal.returns-clause-found
returns-clause-found c =
    c.find.ensures
    ∙ ap (λ test. position test c.self.inside.definitions) (goes_by-function c.args.name.now)
    ∙ ap (λ e. find_function e c.args.name.now) c.self.view_is

pub returns-clause-there : goal.returns-clause-there
returns-clause-there c =
    subst (λ e. IfSome c.find.result (λ number. is_view_at e number ≡ Some false)) c.self.view_is
    (position-sort c.args.name.now true c.self.inside.definitions c.find.result c.find.ensures)
