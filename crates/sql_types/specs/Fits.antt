-- Which values a type has.
use Rattle.std.specs.Prelude.{ℤ, pos, negsuc, int_le, Bool, true, false, ◌&&◌, ◌≡◌, nat_lt, List, [], ◌∷◌}
use Rattle.std.specs.List.{list_all}
use Rattle.std.specs.Str.{is_utf8}
use Rattle.sql_types.specs.declared.sql_type.Named.{Named}
use Rattle.sql_types.specs.declared.sql_type.SqlType.{SqlType, fold-SqlType}
use Rattle.sql_types.specs.declared.sql_type.SqlType.TheOpen as t
use Rattle.sql_types.specs.declared.value.Value.{Value, out-Value}
use Rattle.sql_types.specs.declared.value.Value.TheOpen as v

-- the number lies from the first bound to the last
abbrev pub within : ℤ → ℤ → ℤ → Bool
within least greatest n = int_le least n && int_le n greatest

-- the days from 0001-01-01 to 9999-12-31, counted from 1970-01-01
abbrev pub is_day : ℤ → Bool
is_day = within (negsuc 719161) (pos 2932896)

-- as many values as fields, each fitting its field; a field is given by what fits it
abbrev pub fits_fields : List (Named (Value → Bool)) → List Value → Bool
fits_fields [] [] = true
fits_fields [] (x ∷ xs) = false
fits_fields (f ∷ fs) [] = false
fits_fields (f ∷ fs) (x ∷ xs) = f.ty x && fits_fields fs xs

-- a type's parts are given by what fits them
abbrev pub fits_layer : t.SqlType-F (Value → Bool) → v.Value-F Value → Bool
-- NULL fits each type
fits_layer ty v.Null = true
fits_layer t.Bool (v.Bool b) = true
-- numbers lie in the type's range
fits_layer t.Int32 (v.Int n) = within (negsuc 2147483647) (pos 2147483647) n
fits_layer t.Int64 (v.Int n) = within (negsuc 9223372036854775807) (pos 9223372036854775807) n
fits_layer t.Uint32 (v.Uint n) = nat_lt n 4294967296
fits_layer t.Uint64 (v.Uint n) = nat_lt n 18446744073709551616
-- a STRING is UTF-8, and each byte of a BYTES is from 0 to 255
fits_layer t.Text (v.Text bytes) = is_utf8 bytes
fits_layer t.Bytes (v.Bytes bytes) = list_all (λ b. nat_lt b 256) bytes
fits_layer t.Date (v.Date day) = is_day day
-- each element of an ARRAY fits the element type, and a STRUCT has one fitting value per field
fits_layer (t.Array fits_element) (v.Array xs) = list_all fits_element xs
fits_layer (t.Struct fs) (v.Struct xs) = fits_fields fs xs
-- a value of another kind fits no type
fits_layer _ _ = false

-- whether a value fits a type
unfoldable pub fits : SqlType → Value → Bool
fits = fold-SqlType (Value → Bool) (λ ty x. fits_layer ty (out-Value x))

-- the value fits the type
abbrev pub Fits : Value → SqlType → Type 0
Fits x ty = fits ty x ≡ true

-- one fitting value per column
abbrev pub fits_row : List (Named SqlType) → List Value → Bool
fits_row [] [] = true
fits_row [] (x ∷ xs) = false
fits_row (c ∷ cs) [] = false
fits_row (c ∷ cs) (x ∷ xs) = fits c.ty x && fits_row cs xs
