-- The signatures of Call and SafeCall: which types and which parts the row of each asks for.
use Rattle.std.specs.Prelude.{ℕ, Bool, true, false, ◌&&◌, ◌||◌, is_some, if◌then◌else◌, List, [], ◌∷◌, map, length, slice_get, Option, None, Some}
use denote.Enum.Bare.{sameb}
use Rattle.sql_types.specs.declared.sql_type.SqlType.{SqlType}
use Rattle.sql_types.specs.declared.sql_type.SqlType.TheVariants as ty
use Rattle.sql_types.specs.declared.value.Value.{Value, out-Value}
use Rattle.sql_types.specs.declared.value.Value.TheOpen as v
use Rattle.sql_types.specs.SameType.{same_type}
use Rattle.sql_coerce.specs.declared.arg.Arg.{Arg}
use Rattle.sql_coerce.specs.declared.arg.Kind.TheVariants as kind
use Rattle.sql_dates.specs.Parts.{part_named, field_named}
use Rattle.sql_builtins.specs.contracts.sig.SigId as sig_contract
use Rattle.sql_builtins.specs.declared.sig.SigId.{SigId}
use Rattle.sql_builtins.specs.declared.sig.SigId.TheVariants as sig
use Rattle.sql_builtins.specs.declared.table.Slot.{Slot}
use Rattle.sql_builtins.specs.Table.{Signature, functions}
use Rattle.sql_builtins.specs.Choices.{places, common_type, element_type, target_types, slot_type, meets}
use Rattle.resolved_ast.specs.declared.rex.Rex.{Rex, out-Rex}
use Rattle.resolved_ast.specs.declared.rex.Rex.TheOpen.{Rex-F}
use Rattle.resolved_ast.specs.declared.rex.Rex.TheOpen as t
use Rattle.resolved_ast.specs.Columns.{rex_type}

-- ---- rows

-- a call of ERROR has no value, and so any type
abbrev pub is_error : SigId → Bool
is_error sig.Error = true
is_error _ = false

-- the first row of a signature in a table
abbrev pub row_among : List Signature → SigId → Option Signature
row_among [] s = None
row_among (row ∷ rows) s = if sameb sig_contract.the_type row.sig s then Some row else row_among rows s

-- The row of a Call or a SafeCall: that of a function or an operator. Aggregates and calls with a lambda have none.
abbrev pub call_row : SigId → Option Signature
call_row s = row_among functions s

-- ---- types

-- an argument of a type, which is converted already
abbrev pub arg : SqlType → Arg
arg type = record { ty = Some type; kind = kind.Other }

abbrev pub args : List SqlType → List Arg
args types = map arg types

-- the places of a row: as many as there are arguments, where it takes so many, and else all
abbrev pub slots_of : Signature → ℕ → List Slot
slots_of row n = elim (places row.repeats row.takes n) [ None ↦ row.takes | Some slots ↦ slots ]

-- the first types are those that are asked for, as far as there are both
abbrev pub typed_as : List SqlType → List SqlType → Bool
typed_as [] types = true
typed_as (to ∷ tos) [] = true
typed_as (to ∷ tos) (type ∷ types) = same_type to type && typed_as tos types

-- by the types that the row leaves open: each argument has its place's type, and the call has the type that the row gives; a
-- call of ERROR has any
abbrev pub typed_by : Signature → List Slot → List SqlType → SqlType → Option SqlType → Option SqlType → Bool
typed_by row slots types gives None element = false
typed_by row slots types gives (Some common) None = false
typed_by row slots types gives (Some common) (Some element) =
    typed_as (target_types common element slots (args types)) types && (is_error row.sig || same_type gives (slot_type common element ty.Int64 row.gives))

abbrev pub row_typed : Option Signature → List SqlType → SqlType → Bool
row_typed None types gives = false
row_typed (Some row) types gives =
    let slots = slots_of row (length types) in
    typed_by row slots types gives (common_type slots (args types)) (element_type slots (args types))

-- ---- shapes

-- the value of a Literal
abbrev pub literal_layer : {A B : Type 0} → Rex-F A B → Option Value
literal_layer (t.Literal value ty) = Some value
literal_layer _ = None

-- the text of a STRING Literal
abbrev pub text_layer : v.Value-F Value → Option (List ℕ)
text_layer (v.Text text) = Some text
text_layer _ = None

abbrev pub literal_text : Option Rex → Option (List ℕ)
literal_text None = None
literal_text (Some x) = elim (literal_layer (out-Rex x)) [ None ↦ None | Some value ↦ text_layer (out-Value value) ]

abbrev pub names : {A : Type 0} → (List ℕ → Option A) → Option (List ℕ) → Bool
names part None = false
names part (Some name) = is_some (part name)

-- a date part is a Literal with the upper-case name of a part that the row takes
abbrev pub parts_named : SigId → List Rex → Bool
parts_named sig.DateAdd arguments = names part_named (literal_text (slice_get arguments 2))
parts_named sig.DateSub arguments = names part_named (literal_text (slice_get arguments 2))
parts_named sig.DateDiff arguments = names part_named (literal_text (slice_get arguments 2))
parts_named sig.DateTrunc arguments = names part_named (literal_text (slice_get arguments 1))
parts_named sig.Extract arguments = names field_named (literal_text (slice_get arguments 0))
parts_named _ arguments = true

-- what the row needs of a type that it leaves open
abbrev pub open_meets : Signature → Option SqlType → Bool
open_meets row None = true
open_meets row (Some type) = meets row.needs type

-- the row takes so many arguments, of types that can be compared or ordered where it needs that, and its date part is one
abbrev pub row_shaped : Option Signature → List Rex → Bool
row_shaped None arguments = true
row_shaped (Some row) arguments =
    let types = map rex_type arguments in
    let slots = slots_of row (length types) in
    is_some (places row.repeats row.takes (length types))
    && ((open_meets row (common_type slots (args types)) && open_meets row (element_type slots (args types))) && parts_named row.sig arguments)
