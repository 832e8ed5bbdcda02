use Rattle.std.proofs.Common.{◌<◌, length, ap, ◌∙◌, subst}
use Rattle.std.specs.Prelude.{IfSome}
use Rattle.sql_names.specs.Words.{same_name}
use Rattle.sql_catalog.specs.Names.{find_param}
use Rattle.sql_catalog.proofs.NameLaws.{position-within}
use Rattle.sql_catalog.proofs.catalog.Catalog.find_param.Goals as goal

pub returns-clause-found : goal.returns-clause-found
returns-clause-found c = c.find.ensures ∙ ap (λ e. find_param e c.args.name.now) c.self.view_is

pub returns-clause-there : goal.returns-clause-there
returns-clause-there c =
    subst (λ e. IfSome c.find.result (λ number. number < length e.params)) c.self.view_is
    (position-within (λ param. same_name c.args.name.now param.name) c.self.inside.params c.find.result c.find.ensures)
