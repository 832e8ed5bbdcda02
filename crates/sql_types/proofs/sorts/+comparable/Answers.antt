-- A STRUCT is comparable where its fields are.
use Rattle.std.proofs.Common.{ap, sym, ◌∙◌}
use Rattle.sql_types.specs.declared.sql_type.SqlType.{out-SqlType}
use Rattle.sql_types.specs.declared.sql_type.SqlType.TheVariants as ty
use Rattle.sql_types.proofs.TypeOpens.{comparable_opens, comparable_at}
use Rattle.sql_types.proofs.sorts.+comparable.Goals as goal

pub comparable-returns-in-Struct : goal.comparable-returns-in-Struct
comparable-returns-in-Struct t c =
    c.all_comparable.ensures
    ∙ sym (comparable_opens c.args.ty.now ∙ ap comparable_at (ap out-SqlType c.in-Struct.is ∙ ty.outs-Struct c.in-Struct.fields))
