use Rattle.std.proofs.Common.{◌++◌, ◌∷◌, [], ap, sym, ◌∙◌}
use Rattle.std.specs.List.{list_any}
use Rattle.sql_names.specs.Words.{same_name}
use Rattle.sql_catalog.specs.Names.{TakenOnce, taken_by_params}
use Rattle.sql_catalog.proofs.AddLaws.{either_way, Adds-along}
use Rattle.sql_catalog.proofs.NameLaws.{has_name-map, TakenOnce-param}
use Rattle.sql_catalog.proofs.catalog.Catalog.add_param.Goals as goal

pub invariant_of-self : goal.invariant_of-self
invariant_of-self c =
    either_way (λ params. TakenOnce (record { tables = c.self.inside.tables; definitions = c.self.inside.definitions; params = params }))
    (list_any (λ param. same_name c.args.param.name param.name) c.self.inside.params) c.add.result c.self.inside.params (c.self.inside.params ++ c.args.param ∷ []) c.add.new.self
    c.add.ensures.answer c.add.ensures.added c.add.ensures.kept c.self.invariant
    (λ fresh. TakenOnce-param c.self.inside.tables c.self.inside.definitions c.self.inside.params c.args.param c.self.invariant
    (has_name-map (λ param. param.name) c.self.inside.params c.args.param.name ∙ fresh))

pub returns-clause-answer : goal.returns-clause-answer
returns-clause-answer c =
    Adds-along (list_any (λ param. same_name c.args.param.name param.name) c.self.inside.params) (taken_by_params c.args.self.now c.args.param.name) c.add.result
    (ap (λ e. taken_by_params e c.args.param.name) (sym c.self.view_is) ∙ has_name-map (λ param. param.name) c.self.inside.params c.args.param.name)
    c.add.ensures.answer
