use Rattle.std.proofs.Common.{true, ◌++◌, ◌∷◌, [], ap, sym, ◌∙◌}
use Rattle.std.specs.List.{list_any}
use Rattle.sql_catalog.specs.declared.entries.Definition.TheVariants.{Function}
use Rattle.sql_catalog.specs.Names.{TakenOnce, taken_by_calls, is_built_in, has_name, function_names}
use Rattle.sql_catalog.specs.Slots.{goes_by}
use Rattle.sql_catalog.specs.Sorts.{definition_name, is_function}
use Rattle.sql_catalog.proofs.AddLaws.{either_way, Adds-along, or_left, or_other}
use Rattle.sql_catalog.proofs.NameLaws.{has_name-function_names, TakenOnce-function}
use Rattle.sql_catalog.proofs.catalog.Catalog.add_function.Goals as goal

pub returns-then-is_built_in-clause-answer : goal.returns-then-is_built_in-clause-answer
returns-then-is_built_in-clause-answer c =
    or_left (is_built_in c.args.function.name) (has_name (function_names c.args.self.now.definitions) c.args.function.name)
    (sym c.is_built_in.ensures ∙ c.if-is_built_in.true)

pub invariant_of-self : goal.invariant_of-self
invariant_of-self c =
    either_way (λ definitions. TakenOnce (record { tables = c.self.inside.tables; definitions = definitions; params = c.self.inside.params }))
    (list_any (goes_by definition_name is_function c.args.function.name true) c.self.inside.definitions) c.add.result c.self.inside.definitions (c.self.inside.definitions ++ Function c.args.function ∷ []) c.add.new.self
    c.add.ensures.answer c.add.ensures.added c.add.ensures.kept c.self.invariant
    (λ fresh. TakenOnce-function c.self.inside.tables c.self.inside.definitions c.self.inside.params c.args.function c.self.invariant
    (or_other (is_built_in c.args.function.name) (has_name (function_names c.self.inside.definitions) c.args.function.name) (sym c.is_built_in.ensures ∙ c.if-is_built_in.false)
    ∙ has_name-function_names c.self.inside.definitions c.args.function.name ∙ fresh))

pub returns-clause-answer : goal.returns-clause-answer
returns-clause-answer c =
    Adds-along (list_any (goes_by definition_name is_function c.args.function.name true) c.self.inside.definitions) (taken_by_calls c.args.self.now c.args.function.name) c.add.result
    (ap (λ e. taken_by_calls e c.args.function.name) (sym c.self.view_is)
    ∙ or_other (is_built_in c.args.function.name) (has_name (function_names c.self.inside.definitions) c.args.function.name) (sym c.is_built_in.ensures ∙ c.if-is_built_in.false)
    ∙ has_name-function_names c.self.inside.definitions c.args.function.name)
    c.add.ensures.answer
