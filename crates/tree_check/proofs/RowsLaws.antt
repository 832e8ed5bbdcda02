-- The rows of functions stand before those of aggregates; and what a row asks of the types of arguments.
use Rattle.std.proofs.Common.{◌≡◌, ◌≤◌, Bool, true, List, [], ◌∷◌, ◌++◌, map, length, take, refl, ap, sym, ◌∙◌, arith}
use Rattle.std.proofs.lemmas.List.{length-map, take-map, take_at}
use Rattle.sql_types.specs.declared.sql_type.SqlType.{SqlType, out-SqlType}
use Rattle.sql_types.specs.declared.sql_type.SqlType.TheOpen as t
use Rattle.sql_types.specs.declared.sql_type.SqlType.TheVariants as types
use Rattle.sql_types.specs.SameType.{same_type}
use Rattle.sql_types.proofs.TypeOpens.{same_at, same_opens}
use Rattle.sql_coerce.specs.declared.arg.Arg.{Arg}
use Rattle.sql_builtins.specs.declared.table.Row.{Row}
use Rattle.sql_builtins.specs.declared.table.Slot.{Slot}
use Rattle.sql_builtins.specs.Choices as choices
use Rattle.sql_builtins.specs.Seen.{seen}
use Rattle.sql_builtins.specs.Table.{functions, aggregates, signatures}
use Rattle.resolved_ast.specs.Columns.{element_layer, element_of}
use Rattle.resolved_ast.specs.Flaws.{is_type}
use Rattle.resolved_ast.specs.Signatures.{typed_as}

pub many_rows : (rows : List Row) → map seen rows ≡ signatures → 105 ≤ length rows
many_rows rows is =
    let many : length rows ≡ 117 = sym (length-map rows seen) ∙ ap length is in
    omega (arith, many)

pub first_rows : (rows : List Row) → map seen rows ≡ signatures → map seen (take 105 rows) ≡ functions
first_rows rows is = sym (take-map seen 105 rows) ∙ ap (take 105) is ∙ take_at functions aggregates 105 refl

array_by : (element : SqlType) (z : t.SqlType-F SqlType) → same_at (t.Array element) z ≡ is_type element (element_layer z)
array_by element (t.Array other) = refl
array_by element _ = refl

-- a type is an ARRAY of this one where this one is its element type
pub array_same : (element ty : SqlType) → same_type (types.Array element) ty ≡ is_type element (element_of ty)
array_same element ty =
    same_opens (types.Array element) ty ∙ ap (λ z. same_at z (out-SqlType ty)) (types.outs-Array element) ∙ array_by element (out-SqlType ty)

-- ---- where no argument is left

none_after : (items : List Arg) → items ++ [] ≡ items
none_after [] = refl
none_after (a ∷ items) = ap (λ (more : List Arg). a ∷ more) (none_after items)

pub standing_end : (is : Slot → Bool) (slots : List Slot) (items : List Arg) → items ≡ items ++ choices.standing is slots []
standing_end is [] items = sym (none_after items)
standing_end is (s ∷ slots) items = sym (none_after items)

pub fitting_end : (common element : SqlType) (slots : List Slot) → true ≡ typed_as (choices.target_types common element slots []) []
fitting_end common element [] = refl
fitting_end common element (s ∷ slots) = refl
