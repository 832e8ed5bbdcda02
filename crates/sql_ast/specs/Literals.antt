-- How values are spelled as literals.
use Rattle.std.specs.Prelude.{ℕ, ℤ, ◌/◌, ◌%◌, Bool, true, false, ◌==◌, ◌&&◌, ◌||◌, nat_le, if◌then◌else◌, List, [], ◌∷◌, ◌++◌, codes, decimal}
use Rattle.std.specs.Fmt.{signed_decimal}
use Rattle.std.specs.List.{list_all}
use Rattle.sql_names.specs.Spelling.{hex_digit, quote_text}
use Rattle.sql_names.specs.Commas.{joined}
use Rattle.sql_types.specs.Calendar.{date_text}
use Rattle.sql_types.specs.Fits.{is_day}
use Rattle.sql_types.specs.declared.value.Value.{Value, fold-Value}
use Rattle.sql_types.specs.declared.value.Value.TheOpen as v

-- A byte of BYTES: a backslash and a `"` have a backslash before them, the other bytes from 32 to 126 are as they are, and
-- all else is \x and two digits of base 16.
unfoldable pub byte_text : ℕ → List ℕ
byte_text b =
    if b == 92 || b == 34 then 92 ∷ b ∷ [] else
    if nat_le 32 b && nat_le b 126 then b ∷ [] else
    92 ∷ 120 ∷ hex_digit (b / 16) ∷ hex_digit (b % 16) ∷ []

-- each byte after the other
abbrev pub bytes_text : List ℕ → List ℕ
bytes_text [] = []
bytes_text (b ∷ bs) = byte_text b ++ bytes_text bs

-- a BYTES literal stands in `b"` and `"`
abbrev pub quote_bytes : List ℕ → List ℕ
quote_bytes bytes = (codes "b\"" ++ bytes_text bytes) ++ codes "\""

-- a DATE literal: the word, and the date in `"`
abbrev pub quote_date : ℤ → List ℕ
quote_date day = (codes "DATE \"" ++ date_text day) ++ codes "\""

abbrev pub truth_text : Bool → List ℕ
truth_text true = codes "TRUE"
truth_text false = codes "FALSE"

-- a value's parts are given by their literals
abbrev pub literal_layer : v.Value-F (List ℕ) → List ℕ
literal_layer v.Null = codes "NULL"
literal_layer (v.Bool truth) = truth_text truth
-- integers are decimal
literal_layer (v.Int n) = signed_decimal n
literal_layer (v.Uint n) = decimal n
literal_layer (v.Text text) = quote_text text
literal_layer (v.Bytes bytes) = quote_bytes bytes
literal_layer (v.Date day) = quote_date day
-- the elements of an ARRAY, and the fields of a STRUCT without their names
literal_layer (v.Array elements) = (codes "[" ++ joined elements) ++ codes "]"
literal_layer (v.Struct fields) = (codes "STRUCT(" ++ joined fields) ++ codes ")"

-- the literal that spells a value
unfoldable pub LiteralText : Value → List ℕ
LiteralText = fold-Value (List ℕ) literal_layer

-- the parts are given by whether their dates lie in DATE's range
abbrev pub dates_layer : v.Value-F Bool → Bool
dates_layer (v.Date day) = is_day day
dates_layer (v.Array elements) = list_all (λ fit. fit) elements
dates_layer (v.Struct fields) = list_all (λ fit. fit) fields
dates_layer _ = true

-- each DATE in the value lies in DATE's range
unfoldable pub dates_fit : Value → Bool
dates_fit = fold-Value Bool dates_layer
