-- When a call of a row may be applied to values.
use Rattle.std.specs.Prelude.{◌≡◌, true, List, [], ◌∷◌, length, Some, Contains}
use Rattle.sql_types.specs.declared.sql_type.SqlType.{SqlType}
use Rattle.sql_types.specs.declared.sql_type.SqlType.TheVariants as ty
use Rattle.sql_types.specs.declared.value.Value.{Value}
use Rattle.sql_types.specs.Takes.{fits_types}
use Rattle.sql_builtins.specs.declared.sig.SigId.{SigId}
use Rattle.sql_builtins.specs.declared.table.Slot.{Slot}
use Rattle.sql_builtins.specs.Table.{Signature, signatures}
use Rattle.sql_builtins.specs.Choices.{places, slot_type, meets}

-- the first of the arguments' own types, and those behind it; one that nothing says is INT64
abbrev pub first_own : List SqlType → SqlType
first_own [] = ty.Int64
first_own (own ∷ owns) = own

abbrev pub other_owns : List SqlType → List SqlType
other_owns [] = []
other_owns (own ∷ owns) = owns

-- the type of each place, by the common type, the element type and the arguments' own types
abbrev pub place_types : SqlType → SqlType → List SqlType → List Slot → List SqlType
place_types common element owns [] = []
place_types common element owns (s ∷ slots) = slot_type common element (first_own owns) s ∷ place_types common element (other_owns owns) slots

-- the values fit the row of a signature, and the type is what it gives for them
pub record Fitting (sig : SigId) (gives : SqlType) (values : List Value) : Type 0 where
  pub row : Signature
  -- the row is one of the table, in which no call with a lambda is
  pub listed : Contains signatures row
  -- it is the signature's
  pub same : row.sig ≡ sig
  -- the types that the row leaves open, and the arguments' own
  pub common : SqlType
  pub element : SqlType
  pub owns : List SqlType
  pub slots : List Slot
  -- the row takes so many values, at these places
  pub placed : places row.repeats row.takes (length values) ≡ Some slots
  -- both open types are what the row needs
  pub common_meets : meets row.needs common ≡ true
  pub element_meets : meets row.needs element ≡ true
  -- each value fits the type of its place
  pub fit : fits_types (place_types common element owns slots) values ≡ true
  -- the type is the one that the row gives
  pub gives_type : gives ≡ slot_type common element ty.Int64 row.gives
