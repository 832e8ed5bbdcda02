use Rattle.std.proofs.Common.{false, ◌++◌, ◌∷◌, [], ap, sym, ◌∙◌}
use Rattle.std.specs.List.{list_any}
use Rattle.sql_names.specs.Words.{same_name}
use Rattle.sql_catalog.specs.Names.{TakenOnce, taken_in_from}
use Rattle.sql_catalog.specs.Slots.{goes_by}
use Rattle.sql_catalog.specs.Sorts.{definition_name, is_function}
use Rattle.sql_catalog.proofs.AddLaws.{either_way, Adds-along, or_right, or_first}
use Rattle.sql_catalog.proofs.NameLaws.{has_name-in_from, TakenOnce-table}
use Rattle.sql_catalog.proofs.catalog.Catalog.add_table.Goals as goal

pub returns-then-has-clause-answer : goal.returns-then-has-clause-answer
returns-then-has-clause-answer c =
    ap (λ e. taken_in_from e c.args.table.name) (sym c.self.view_is)
    ∙ has_name-in_from c.self.inside.tables c.self.inside.definitions c.args.table.name
    ∙ or_right (list_any (λ table. same_name c.args.table.name table.name) c.self.inside.tables) (list_any (goes_by definition_name is_function c.args.table.name false) c.self.inside.definitions)
    (sym c.has.ensures ∙ c.if-has.true)

pub invariant_of-self : goal.invariant_of-self
invariant_of-self c =
    either_way (λ tables. TakenOnce (record { tables = tables; definitions = c.self.inside.definitions; params = c.self.inside.params }))
    (list_any (λ table. same_name c.args.table.name table.name) c.self.inside.tables) c.add.result c.self.inside.tables (c.self.inside.tables ++ c.args.table ∷ []) c.add.new.self
    c.add.ensures.answer c.add.ensures.added c.add.ensures.kept c.self.invariant
    (λ fresh. TakenOnce-table c.self.inside.tables c.self.inside.definitions c.self.inside.params c.args.table c.self.invariant
    (has_name-in_from c.self.inside.tables c.self.inside.definitions c.args.table.name
    ∙ or_first (list_any (λ table. same_name c.args.table.name table.name) c.self.inside.tables) (list_any (goes_by definition_name is_function c.args.table.name false) c.self.inside.definitions)
    (sym c.has.ensures ∙ c.if-has.false) ∙ fresh))

pub returns-clause-answer : goal.returns-clause-answer
returns-clause-answer c =
    Adds-along (list_any (λ table. same_name c.args.table.name table.name) c.self.inside.tables) (taken_in_from c.args.self.now c.args.table.name) c.add.result
    (ap (λ e. taken_in_from e c.args.table.name) (sym c.self.view_is)
    ∙ has_name-in_from c.self.inside.tables c.self.inside.definitions c.args.table.name
    ∙ or_first (list_any (λ table. same_name c.args.table.name table.name) c.self.inside.tables) (list_any (goes_by definition_name is_function c.args.table.name false) c.self.inside.definitions)
    (sym c.has.ensures ∙ c.if-has.false))
    c.add.ensures.answer
