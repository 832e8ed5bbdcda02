-- The row gives the type, whichever of the two stands first.
use Rattle.std.proofs.Common.{◌||◌, ap, sym, ◌∙◌}
use Rattle.sql_types.specs.SameType.{same_type}
use Rattle.sql_types.specs.declared.sql_type.SqlType.TheVariants as types
use Rattle.sql_builtins.specs.Choices.{slot_type}
use Rattle.tree_check.proofs.TurnedLaws.{same_turned}
use Rattle.tree_check.proofs.calls.gives.Goals as goal

pub returns-else-is_error : goal.returns-else-is_error
returns-else-is_error c =
    let given = slot_type c.args.common.now c.args.element.now types.Int64 c.args.row.now.gives in
    c.slot_is.ensures ∙ same_turned given c.args.ty.now
    ∙ ap (λ b. b || same_type c.args.ty.now given) (sym (sym c.is_error.ensures ∙ c.if-is_error.false))
