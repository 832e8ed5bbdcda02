use Rattle.std.proofs.Common.{List, Option, ℕ, sym, ◌∙◌, ap, subst}
use Rattle.sql_types.specs.declared.sql_type.Named.{Named}
use Rattle.sql_types.specs.declared.sql_type.SqlType.{SqlType}
use Rattle.small_run.specs.Parts.{only, NamesColumn}
use Rattle.small_run.proofs.Names.{hidden, shown}
use Rattle.small_run.proofs.Places.{named}
use Rattle.small_run.proofs.columns.column_named.Goals as goal

pub returns-then-same_name : goal.returns-then-same_name
returns-then-same_name c = hidden c.args.table.now c.args.name.now (sym c.same_name.ensures ∙ c.if-same_name.true)

pub returns-else-same_name : goal.returns-else-same_name
returns-else-same_name c =
    subst (λ (found : Option ℕ). NamesColumn c.args.table.now c.args.name.now found)
    (sym (c.only_column.ensures ∙ ap (λ (cs : List (Named SqlType)). only (named c.args.name.now cs)) c.as_slice.ensures))
    (shown c.args.table.now c.args.name.now (sym c.same_name.ensures ∙ c.if-same_name.false))
