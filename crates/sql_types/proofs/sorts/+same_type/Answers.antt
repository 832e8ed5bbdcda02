-- ARRAYs are the same where their element types are, and STRUCTs where their fields are.
use Rattle.std.proofs.Common.{◌≡◌, ap, sym, ◌∙◌}
use Rattle.sql_types.specs.declared.sql_type.SqlType.{SqlType, out-SqlType}
use Rattle.sql_types.specs.declared.sql_type.SqlType.TheVariants as ty
use Rattle.sql_types.specs.declared.sql_type.SqlType.TheOpen as layer
use Rattle.sql_types.specs.SameType.{same_type}
use Rattle.sql_types.proofs.TypeOpens.{same_opens, same_at}
use Rattle.sql_types.proofs.sorts.+same_type.Goals as goal

by_parts : (x y : SqlType) (a b : layer.SqlType-F SqlType) → out-SqlType x ≡ a → out-SqlType y ≡ b → same_type x y ≡ same_at a b
by_parts x y a b e f = same_opens x y ∙ ap (λ z. same_at z (out-SqlType y)) e ∙ ap (same_at a) f

pub same_type-returns-in-Array-right : goal.same_type-returns-in-Array-right
same_type-returns-in-Array-right t c =
    c.same_type.ensures
    ∙ ap (λ z. same_type z c.get-in-Array-right.result.now) c.get.ensures
    ∙ ap (same_type c.in-Array.element) c.get-in-Array-right.ensures
    ∙ sym (by_parts c.args.left.now c.args.right.now (layer.Array c.in-Array.element) (layer.Array c.in-Array-right.other)
    (ap out-SqlType c.in-Array.is ∙ ty.outs-Array c.in-Array.element)
    (ap out-SqlType c.in-Array-right.is ∙ ty.outs-Array c.in-Array-right.other))

pub same_type-returns-in-Struct-right : goal.same_type-returns-in-Struct-right
same_type-returns-in-Struct-right t c =
    c.same_fields.ensures
    ∙ sym (by_parts c.args.left.now c.args.right.now (layer.Struct c.in-Struct.fields) (layer.Struct c.in-Struct-right.others)
    (ap out-SqlType c.in-Struct.is ∙ ty.outs-Struct c.in-Struct.fields)
    (ap out-SqlType c.in-Struct-right.is ∙ ty.outs-Struct c.in-Struct-right.others))
