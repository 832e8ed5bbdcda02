-- The value of a cell.
use Rattle.std.specs.Prelude.{ℕ, Bool, if◌then◌else◌, nat_le, ◌==◌, ◌&&◌, ◌-◌, List, [], ◌∷◌, length, drop, take, slice_index, Option, Some, None, option_map, Result, Ok, Err}
use Rattle.std.specs.List.{list_all}
use Rattle.std.specs.Str.{bytes_eq, is_utf8}
use Rattle.hex.specs.Hex.{decode_of}
use Rattle.sql_types.specs.declared.sql_type.SqlType.{SqlType, out-SqlType}
use Rattle.sql_types.specs.declared.sql_type.SqlType.TheOpen as t
use Rattle.sql_types.specs.declared.value.Value.{Value}
use Rattle.sql_types.specs.declared.value.Value.TheVariants as v
use Rattle.sql_coerce.specs.Casts.{cast_text}
use Rattle.sql_constants.specs.Values.{constant_value}

-- the bytes of the mark of NULL
abbrev pub backslash : ℕ
backslash = 92

abbrev pub letter_n : ℕ
letter_n = 78

-- a backslash and `N`
abbrev pub is_null_mark : List ℕ → Bool
is_null_mark cell = bytes_eq cell (backslash ∷ letter_n ∷ [])

-- two or more backslashes and then `N`
abbrev pub is_escaped_mark : List ℕ → Bool
is_escaped_mark cell =
    nat_le 3 (length cell) && (slice_index cell (length cell - 1) == letter_n) && list_all (λ c. c == backslash) (take (length cell - 1) cell)

-- the text that a STRING cell writes: such a cell has one backslash too many, and every other one stands for itself
abbrev pub text_bytes : List ℕ → List ℕ
text_bytes cell = if is_escaped_mark cell then drop 1 cell else cell

-- a text is UTF-8
abbrev pub text_of : List ℕ → Option (List ℕ)
text_of cell = if is_utf8 (text_bytes cell) then Some (text_bytes cell) else None

-- what is there, unless it failed
abbrev pub if_any : {A E : Type 0} → Result A E → Option A
if_any (Ok x) = Some x
if_any (Err e) = None

-- an even number of hex digits, of either case: two digits a byte
abbrev pub hex_bytes : List ℕ → Option (List ℕ)
hex_bytes cell = if_any (decode_of cell)

-- what a cell that isn't empty writes in a column that is neither STRING nor BYTES
abbrev pub some_cell : SqlType → t.SqlType-F SqlType → List ℕ → Option Value
-- an ARRAY and a STRUCT are constants
some_cell type (t.Array element) cell = constant_value type cell
some_cell type (t.Struct fields) cell = constant_value type cell
-- BOOL, integers and DATE are as in the cast from STRING
some_cell type form cell = if_any (cast_text cell form)

-- an empty cell is NULL there
abbrev pub unless_empty : List ℕ → Option Value → Option Value
unless_empty [] value = Some v.Null
unless_empty (c ∷ cs) value = value

-- the value of a cell that isn't the mark of NULL, by the type of its column and the form of the type
abbrev pub typed_cell : SqlType → t.SqlType-F SqlType → List ℕ → Option Value
-- a STRING is its text, and an empty cell the empty text
typed_cell type t.Text cell = option_map v.Text (text_of cell)
-- BYTES are their digits, and an empty cell no bytes
typed_cell type t.Bytes cell = option_map v.Bytes (hex_bytes cell)
typed_cell type form cell = unless_empty cell (some_cell type form cell)

-- the cell `\N` is NULL for each type
abbrev pub cell_of : SqlType → List ℕ → Option Value
cell_of ty cell = if is_null_mark cell then Some v.Null else typed_cell ty (out-SqlType ty) cell
