-- Fields of STRUCTs and elements of ARRAYs.
use Rattle.std.specs.Prelude.{ℕ, suc, ℤ, pos, true, false, List, slice_get, slice_index_or, Option, None, Some, Ok, Err}
use Rattle.sql_types.specs.declared.fault.FaultKind.TheVariants as fault
use Rattle.sql_types.specs.declared.value.Value.{Value, out-Value}
use Rattle.sql_types.specs.declared.value.Value.TheVariants as value
use Rattle.sql_types.specs.declared.value.Value.TheOpen as v
use Rattle.sql_types.specs.Outcome.{Outcome}
use Rattle.sql_types.specs.Takes.{elements, number}
use Rattle.sql_ast.specs.declared.expr.IndexForm.{IndexForm}
use Rattle.sql_ast.specs.declared.expr.IndexForm.TheVariants as form
use Rattle.sql_forms.specs.Conditions.{is_null_value}

-- a field of a STRUCT, by its place from 0; that of NULL is NULL
abbrev pub field_layer : ℕ → v.Value-F Value → Value
field_layer place (v.Struct xs) = slice_index_or xs place value.Null
field_layer place _ = value.Null

abbrev pub field_at : ℕ → Value → Value
field_at place x = field_layer place (out-Value x)

-- how many elements stand before the one that is meant: OFFSET counts from 0, ORDINAL from 1
abbrev pub before_element : IndexForm → ℤ → Option ℕ
before_element form.Offset (pos n) = Some n
before_element form.SafeOffset (pos n) = Some n
before_element form.Ordinal (pos (suc n)) = Some n
before_element form.SafeOrdinal (pos (suc n)) = Some n
before_element f n = None

-- outside the array the SAFE_ forms give NULL, and the others the fault INDEX
abbrev pub outside : IndexForm → Outcome Value
outside form.Offset = Err fault.Index
outside form.Ordinal = Err fault.Index
outside form.SafeOffset = Ok value.Null
outside form.SafeOrdinal = Ok value.Null

abbrev pub element_at : IndexForm → List Value → Option ℕ → Outcome Value
element_at f xs None = outside f
element_at f xs (Some n) = elim (slice_get xs n) [ None ↦ outside f | Some x ↦ Ok x ]

-- a NULL array or index gives NULL
abbrev pub subscript : IndexForm → Value → Value → Outcome Value
subscript f xs i = elim (is_null_value xs) [
  | true ↦ Ok value.Null
  | false ↦ elim (is_null_value i) [ true ↦ Ok value.Null | false ↦ element_at f (elements xs) (before_element f (number i)) ]
]
