-- One column more is written, and a STRUCT is.
use Rattle.std.proofs.Common.{◌++◌, List, ℕ, map, ap, ◌∙◌, append_assoc, arith}
use Rattle.sql_names.specs.Commas.{joined, separator}
use Rattle.sql_names.proofs.Joins.{wrote_joined}
use Rattle.sql_types.specs.declared.sql_type.Named.{Named}
use Rattle.sql_types.specs.declared.sql_type.SqlType.{SqlType}
use Rattle.sql_types.specs.TypeText.{column_text, name_front, type_text}
use Rattle.sql_types.proofs.TypeTextLaws.{wrote_struct}
use Rattle.sql_types.proofs.spelling.+spelling.Goals as goal

pub write_columns-loop-place-preserved : goal.write_columns-loop-place-preserved
write_columns-loop-place-preserved t c =
    let column = c.index-columns-place.result in
    let before : List ℕ = c.loop-place.out.items in
    wrote_joined column_text c.args.columns.now c.loop-place.place column (omega arith) c.index-columns-place.is c.args.out.now.items before c.write_type.new.out.items
    (c.in_ok-write_type.ensures
    ∙ ap (λ (r : List ℕ). r ++ type_text column.ty) (c.in_ok-write_front.ensures ∙ ap (λ (r : List ℕ). r ++ name_front column.name) c.in_ok-write_separator.ensures)
    ∙ ap (λ (r : List ℕ). r ++ type_text column.ty) (append_assoc before (separator c.loop-place.place) (name_front column.name))
    ∙ append_assoc before (separator c.loop-place.place ++ name_front column.name) (type_text column.ty)
    ∙ ap (λ (r : List ℕ). before ++ r) (append_assoc (separator c.loop-place.place) (name_front column.name) (type_text column.ty)))
    c.loop-place.invariant

pub write_type-returns-in_ok-push-in-Struct : goal.write_type-returns-in_ok-push-in-Struct
write_type-returns-in_ok-push-in-Struct t c =
    wrote_struct c.in-Struct.fields c.args.ty.now c.in-Struct.is c.args.out.now.items c.extend_from_slice-in-Struct.new.self.items c.write_columns.new.out.items c.push.new.self.items
    c.in_ok-extend_from_slice-in-Struct.ensures.items (c.in_ok-write_columns-in-Struct.ensures
    ∙ ap (λ (columns : List (Named SqlType)). c.extend_from_slice-in-Struct.new.self.items ++ joined (map column_text columns)) c.as_slice.ensures) c.in_ok-push-in-Struct.ensures.items
