-- The arguments of a call, and what it answers.
use Rattle.std.specs.Prelude.{◌≡◌, ℕ, ℤ, Bool, true, false, ◌&&◌, List, [], ◌∷◌, slice_index_or, Option, Some, None, option_and_then, IfSome, Result, Ok, Err}
use Rattle.sql_types.specs.declared.fault.CallFault.{CallFault}
use Rattle.sql_types.specs.declared.fault.CallFault.TheVariants.{Fault}
use Rattle.sql_types.specs.declared.sql_type.SqlType.{SqlType}
use Rattle.sql_types.specs.declared.value.Value.{Value, out-Value}
use Rattle.sql_types.specs.declared.value.Value.TheVariants.{Null}
use Rattle.sql_types.specs.declared.value.Value.TheOpen as v
use Rattle.sql_types.specs.Fits.{fits, is_day}
use Rattle.sql_types.specs.Outcome.{Outcome}
use Rattle.sql_dates.specs.declared.part.DatePart.{DatePart}
use Rattle.sql_dates.specs.declared.part.DateField.{DateField}
use Rattle.sql_dates.specs.Parts.{part_named, field_named}

abbrev pub argument : List Value → ℕ → v.Value-F Value
argument values place = out-Value (slice_index_or values place Null)

-- the day of a DATE; NULL has none
abbrev pub date_form : v.Value-F Value → Option ℤ
date_form (v.Date day) = Some day
date_form _ = None

-- the number of an INT64
abbrev pub int_form : v.Value-F Value → Option ℤ
int_form (v.Int number) = Some number
int_form _ = None

-- the bytes of a STRING
abbrev pub text_form : v.Value-F Value → Option (List ℕ)
text_form (v.Text bytes) = Some bytes
text_form _ = None

abbrev pub date_at : List Value → ℕ → Option ℤ
date_at values place = date_form (argument values place)

abbrev pub int_at : List Value → ℕ → Option ℤ
int_at values place = int_form (argument values place)

abbrev pub text_at : List Value → ℕ → Option (List ℕ)
text_at values place = text_form (argument values place)

-- each DATE among the values is a day that DATE has
pub record HasDates (values : List Value) : Type 0 where
  pub each : (place : ℕ) → IfSome (date_at values place) (λ day. is_day day ≡ true)

-- a part is the STRING of its name in upper case
abbrev pub part_at : List Value → ℕ → Option DatePart
part_at values place = option_and_then part_named (text_at values place)

abbrev pub field_at : List Value → ℕ → Option DateField
field_at values place = option_and_then field_named (text_at values place)

-- a call with a NULL argument is NULL
abbrev pub unless_null : {A : Type 0} → Option A → (A → Outcome Value) → Outcome Value
unless_null None next = Ok Null
unless_null (Some x) next = next x

-- what a call answers that takes no memory
abbrev pub answered : Outcome Value → Result Value CallFault
answered (Ok value) = Ok value
answered (Err fault) = Err (Fault fault)
