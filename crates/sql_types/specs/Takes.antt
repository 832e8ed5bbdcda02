-- What the calls of functions take, and the rule on NULL.
use Rattle.std.specs.Prelude.{ℕ, nat_lt, ℤ, pos, negsuc, if◌then◌else◌, Bool, true, false, ◌&&◌, ◌||◌, List, [], ◌∷◌, Result, Ok, Err}
use Rattle.sql_types.specs.declared.sql_type.SqlType.{SqlType}
use Rattle.sql_types.specs.declared.value.Value.{Value, out-Value}
use Rattle.sql_types.specs.declared.value.Value.TheVariants.{Null}
use Rattle.sql_types.specs.declared.value.Value.TheVariants as value
use Rattle.sql_types.specs.declared.fault.FaultKind.TheVariants as fault
use Rattle.sql_types.specs.declared.value.Value.TheOpen as v
use Rattle.sql_types.specs.Before.{is_null}
use Rattle.sql_types.specs.Fits.{fits, within}
use Rattle.sql_types.specs.Outcome.{Outcome}

-- as many values as types, each fitting its type
abbrev pub fits_types : List SqlType → List Value → Bool
fits_types [] [] = true
fits_types [] (x ∷ xs) = false
fits_types (ty ∷ types) [] = false
fits_types (ty ∷ types) (x ∷ xs) = fits ty x && fits_types types xs

-- the same, where the last argument may be missing
abbrev pub fits_types_or_less : List SqlType → SqlType → List Value → Bool
fits_types_or_less types last [] = fits_types types []
fits_types_or_less [] last (x ∷ xs) = fits_types (last ∷ []) (x ∷ xs)
fits_types_or_less (ty ∷ types) last (x ∷ xs) = fits ty x && fits_types_or_less types last xs

-- any number of values that fit one type
abbrev pub all_fit : SqlType → List Value → Bool
all_fit ty [] = true
all_fit ty (x ∷ xs) = fits ty x && all_fit ty xs

-- one or more values that fit one type
abbrev pub fits_repeated : SqlType → List Value → Bool
fits_repeated ty [] = false
fits_repeated ty (x ∷ xs) = fits ty x && all_fit ty xs

-- some value is NULL
abbrev pub some_null : List Value → Bool
some_null [] = false
some_null (x ∷ xs) = is_null (out-Value x) || some_null xs

-- A call with a NULL argument is NULL, unless the function's own row says otherwise.
abbrev pub strict : (List Value → Outcome Value) → List Value → Outcome Value
strict row values = elim (some_null values) [ true ↦ Ok Null | false ↦ row values ]

-- ---- what a value says; each has an answer for every value, and is asked of values of its own type alone

-- the text of a STRING, or the bytes of a BYTES
abbrev pub content_layer : v.Value-F Value → List ℕ
content_layer (v.Text text) = text
content_layer (v.Bytes bytes) = bytes
content_layer _ = []

abbrev pub content : Value → List ℕ
content x = content_layer (out-Value x)

-- the number of an integer, or the day of a DATE
abbrev pub number_layer : v.Value-F Value → ℤ
number_layer (v.Int n) = n
number_layer (v.Uint n) = pos n
number_layer (v.Date day) = day
number_layer _ = pos 0

abbrev pub number : Value → ℤ
number x = number_layer (out-Value x)

-- the elements of an ARRAY
abbrev pub elements_layer : v.Value-F Value → List Value
elements_layer (v.Array xs) = xs
elements_layer _ = []

abbrev pub elements : Value → List Value
elements x = elements_layer (out-Value x)

-- a number of symbols, elements or rows, or a place; above the greatest INT64 it is OUT_OF_RANGE
abbrev pub count_value : ℕ → Outcome Value
count_value n = if nat_lt n 9223372036854775808 then Ok (value.Int (pos n)) else Err fault.OutOfRange

-- ---- integers of the two types

-- the INT64 of a number
abbrev pub as_int64 : ℤ → Outcome Value
as_int64 n = if within (negsuc 9223372036854775807) (pos 9223372036854775807) n then Ok (value.Int n) else Err fault.OutOfRange

-- the UINT64 of a number
abbrev pub as_uint64 : ℤ → Outcome Value
as_uint64 (pos n) = if nat_lt n 18446744073709551616 then Ok (value.Uint n) else Err fault.OutOfRange
as_uint64 (negsuc n) = Err fault.OutOfRange
