-- The value of a cell, by the form of its column's type.
use Rattle.std.proofs.Common.{◌≡◌, ℕ, false, cond, List, Option, Some, None, refl, ◌∙◌, ap}
use Rattle.std.specs.Prelude.{option_and_then, option_map}
use Rattle.sql_types.specs.Calendar.{read_date}
use Rattle.sql_types.specs.declared.sql_type.Named.{Named}
use Rattle.sql_types.specs.declared.sql_type.SqlType.{SqlType, out-SqlType}
use Rattle.sql_types.specs.declared.sql_type.SqlType.TheOpen as t
use Rattle.sql_types.specs.declared.sql_type.SqlType.TheVariants as ty
use Rattle.sql_types.specs.declared.value.Value.TheVariants as v
use Rattle.sql_coerce.specs.Casts.{or_cast_fault, integer_value, truth_of_text}
use Rattle.sql_coerce.specs.Numerals.{integer}
use Rattle.sql_constants.specs.Values.{constant_value}
use Rattle.sql_constants.proofs.Levels.{rolled}
use Rattle.csv_tables.specs.Cells.{cell_of, typed_cell, unless_empty, if_any, is_null_mark}

-- what isn't the fault CAST is there
pub any_but_fault : {A : Type 0} (o : Option A) → if_any (or_cast_fault o) ≡ o
any_but_fault (Some x) = refl
any_but_fault None = refl

module _ (type : SqlType) (cell : List ℕ) (unmarked : is_null_mark cell ≡ false) where
  by_form : (form : t.SqlType-F SqlType) → out-SqlType type ≡ form → cell_of type cell ≡ typed_cell type form cell
  by_form form is = ap (λ b. cond b (Some v.Null) (typed_cell type (out-SqlType type) cell)) unmarked ∙ ap (λ f. typed_cell type f cell) is

  pub bool_cell : type ≡ ty.Bool → cell_of type cell ≡ unless_empty cell (option_map v.Bool (truth_of_text cell))
  bool_cell is = by_form t.Bool (ap out-SqlType is ∙ ty.outs-Bool) ∙ ap (unless_empty cell) (any_but_fault (option_map v.Bool (truth_of_text cell)))

  pub day_cell : type ≡ ty.Date → cell_of type cell ≡ unless_empty cell (option_map v.Date (read_date cell))
  day_cell is = by_form t.Date (ap out-SqlType is ∙ ty.outs-Date) ∙ ap (unless_empty cell) (any_but_fault (option_map v.Date (read_date cell)))

  pub array_cell : (element : SqlType) → type ≡ ty.Array element → cell_of type cell ≡ unless_empty cell (constant_value type cell)
  array_cell element is = by_form (t.Array element) (ap out-SqlType is ∙ ty.outs-Array element)

  pub struct_cell : (fields : List (Named SqlType)) → type ≡ ty.Struct fields → cell_of type cell ≡ unless_empty cell (constant_value type cell)
  struct_cell fields is = by_form (t.Struct fields) (ap out-SqlType is ∙ ty.outs-Struct fields)

  -- a type that is none of the others is an integer type
  number_form : (form : t.SqlType-F SqlType) → out-SqlType type ≡ form → (type ≡ ty.Text → ⊥) → (type ≡ ty.Bytes → ⊥) → (type ≡ ty.Bool → ⊥) → (type ≡ ty.Date → ⊥) → ((element : SqlType) → type ≡ ty.Array element → ⊥)
      → ((fields : List (Named SqlType)) → type ≡ ty.Struct fields → ⊥) → typed_cell type form cell ≡ unless_empty cell (option_and_then (integer_value form) (integer cell))
  number_form t.Text e a b c d f g = absurd (a (rolled type t.Text ty.Text e ty.outs-Text))
  number_form t.Bytes e a b c d f g = absurd (b (rolled type t.Bytes ty.Bytes e ty.outs-Bytes))
  number_form t.Bool e a b c d f g = absurd (c (rolled type t.Bool ty.Bool e ty.outs-Bool))
  number_form t.Date e a b c d f g = absurd (d (rolled type t.Date ty.Date e ty.outs-Date))
  number_form (t.Array element) e a b c d f g = absurd (f element (rolled type (t.Array element) (ty.Array element) e (ty.outs-Array element)))
  number_form (t.Struct fields) e a b c d f g = absurd (g fields (rolled type (t.Struct fields) (ty.Struct fields) e (ty.outs-Struct fields)))
  number_form t.Int32 e a b c d f g = ap (unless_empty cell) (any_but_fault (option_and_then (integer_value t.Int32) (integer cell)))
  number_form t.Int64 e a b c d f g = ap (unless_empty cell) (any_but_fault (option_and_then (integer_value t.Int64) (integer cell)))
  number_form t.Uint32 e a b c d f g = ap (unless_empty cell) (any_but_fault (option_and_then (integer_value t.Uint32) (integer cell)))
  number_form t.Uint64 e a b c d f g = ap (unless_empty cell) (any_but_fault (option_and_then (integer_value t.Uint64) (integer cell)))

  pub number_cell : (type ≡ ty.Text → ⊥) → (type ≡ ty.Bytes → ⊥) → (type ≡ ty.Bool → ⊥) → (type ≡ ty.Date → ⊥) → ((element : SqlType) → type ≡ ty.Array element → ⊥) → ((fields : List (Named SqlType)) → type ≡ ty.Struct fields → ⊥)
      → cell_of type cell ≡ unless_empty cell (option_and_then (integer_value (out-SqlType type)) (integer cell))
  number_cell a b c d f g = by_form (out-SqlType type) refl ∙ number_form (out-SqlType type) refl a b c d f g
