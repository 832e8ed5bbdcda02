use Rattle.std.proofs.Common.{◌∙◌}
use Rattle.sql_builtins.proofs.ArrayLaws.{untyped_argument, typed_argument}
use Rattle.sql_builtins.proofs.coercion.coercion_to_array.Goals as goal

pub returns-in-Untyped : goal.returns-in-Untyped
returns-in-Untyped c = untyped_argument c.args.argument.now.ty c.args.argument.now.kind c.in-Some.from c.args.element.now c.in-Some.is c.in-Untyped.is

pub returns-in_default : goal.returns-in_default
returns-in_default c =
    c.array_coercion.ensures ∙ typed_argument c.args.argument.now.ty c.args.argument.now.kind c.in-Some.from c.args.element.now c.in-Some.is c.in_default.not-Untyped
