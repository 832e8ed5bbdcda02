-- The functions on STRING and BYTES, a row each: what its call answers for values that fit the row.
use Rattle.std.specs.Prelude.{ℕ, ◌*◌, ℤ, pos, negsuc, nat_lt, Bool, true, false, if◌then◌else◌, List, [], ◌∷◌, map, length, reverse, Option, None, Some, Ok, Err}
use Rattle.std.specs.Str.{chars, encode_utf8_all}
use Rattle.std.specs.Char.{is_whitespace}
use Rattle.sql_types.specs.declared.value.Value.{Value, out-Value}
use Rattle.sql_types.specs.declared.value.Value.TheVariants as value
use Rattle.sql_types.specs.declared.fault.FaultKind.TheVariants as fault
use Rattle.sql_types.specs.Before.{is_null}
use Rattle.sql_types.specs.Outcome.{Outcome}
use Rattle.sql_types.specs.Takes.{strict, content, number, elements, count_value}
use Rattle.sql_strings.specs.Texts.{part_at, from_place, begins_with, ends_with, first_place, place_of, split_text, replaced, repeated, all_joined, joined_by, drop_front, drop_back, stands_in}
use Rattle.sql_strings.specs.Patterns as pattern
use Rattle.sql_strings.specs.Hex.{to_hex, from_hex}

-- ---- texts of the two types

-- the characters of a STRING
abbrev pub characters : Value → List ℕ
characters x = chars (content x)

-- the STRING of these characters
abbrev pub string : List ℕ → Value
string cs = value.Text (encode_utf8_all cs)

-- a STRING is seen as its characters, and a BYTES as its bytes
pub record Kind : Type 0 where
  pub symbols : Value → List ℕ
  pub make : List ℕ → Value

abbrev pub string_kind : Kind
string_kind = record { symbols = characters; make = string }

abbrev pub bytes_kind : Kind
bytes_kind = record { symbols = content; make = value.Bytes }

-- ---- length

-- LENGTH of a STRING in characters, of a BYTES in bytes; CHAR_LENGTH is that of a STRING
abbrev pub length_row : Kind → List Value → Outcome Value
length_row k (x ∷ []) = count_value (length (k.symbols x))
length_row k _ = Ok value.Null

abbrev pub apply_length : Kind → List Value → Outcome Value
apply_length k = strict (length_row k)

-- BYTE_LENGTH of either
abbrev pub apply_byte_length : List Value → Outcome Value
apply_byte_length = strict (length_row bytes_kind)

-- ---- joining

abbrev pub concat_row : Kind → List Value → Outcome Value
concat_row k values = Ok (k.make (all_joined (map k.symbols values)))

-- `||` of two, and CONCAT of one or more
abbrev pub apply_concat : Kind → List Value → Outcome Value
apply_concat k = strict (concat_row k)

-- ---- parts

-- a negative length is a fault
abbrev pub part_by : Kind → List ℕ → ℤ → ℤ → Outcome Value
part_by k xs place (pos count) = Ok (k.make (part_at place count xs))
part_by k xs place (negsuc less) = Err fault.Argument

abbrev pub substr_row : Kind → List Value → Outcome Value
substr_row k (x ∷ p ∷ []) = Ok (k.make (from_place (number p) (k.symbols x)))
substr_row k (x ∷ p ∷ c ∷ []) = part_by k (k.symbols x) (number p) (number c)
substr_row k _ = Ok value.Null

-- SUBSTR from 1, or from the end where the place is negative
abbrev pub apply_substr : Kind → List Value → Outcome Value
apply_substr k = strict (substr_row k)

abbrev pub starts_row : Kind → List Value → Outcome Value
starts_row k (x ∷ p ∷ []) = Ok (value.Bool (begins_with (k.symbols p) (k.symbols x)))
starts_row k _ = Ok value.Null

abbrev pub apply_starts_with : Kind → List Value → Outcome Value
apply_starts_with k = strict (starts_row k)

abbrev pub ends_row : Kind → List Value → Outcome Value
ends_row k (x ∷ p ∷ []) = Ok (value.Bool (ends_with (k.symbols p) (k.symbols x)))
ends_row k _ = Ok value.Null

abbrev pub apply_ends_with : Kind → List Value → Outcome Value
apply_ends_with k = strict (ends_row k)

-- STRPOS: the first place from 1, and 0 where there is none; an empty part is found at 1
abbrev pub strpos_row : Kind → List Value → Outcome Value
strpos_row k (x ∷ p ∷ []) = count_value (place_of (first_place (k.symbols p) (k.symbols x)))
strpos_row k _ = Ok value.Null

abbrev pub apply_strpos : Kind → List Value → Outcome Value
apply_strpos k = strict (strpos_row k)

-- ---- other texts

abbrev pub replace_row : Kind → List Value → Outcome Value
replace_row k (x ∷ old ∷ new ∷ []) = Ok (k.make (replaced (k.symbols old) (k.symbols new) (k.symbols x)))
replace_row k _ = Ok value.Null

abbrev pub apply_replace : Kind → List Value → Outcome Value
apply_replace k = strict (replace_row k)

-- REPEAT: a negative count is a fault, and so is an answer of more than 1,048,576 bytes
abbrev pub repeat_by : (List ℕ → Value) → List ℕ → ℤ → Outcome Value
repeat_by make bytes (pos count) = if nat_lt 1048576 (count * length bytes) then Err fault.OutOfRange else Ok (make (repeated count bytes))
repeat_by make bytes (negsuc less) = Err fault.Argument

abbrev pub repeat_row : (List ℕ → Value) → List Value → Outcome Value
repeat_row make (x ∷ n ∷ []) = repeat_by make (content x) (number n)
repeat_row make _ = Ok value.Null

abbrev pub apply_repeat : (List ℕ → Value) → List Value → Outcome Value
apply_repeat make = strict (repeat_row make)

abbrev pub reverse_row : Kind → List Value → Outcome Value
reverse_row k (x ∷ []) = Ok (k.make (reverse (k.symbols x)))
reverse_row k _ = Ok value.Null

-- REVERSE by characters, or by bytes
abbrev pub apply_reverse : Kind → List Value → Outcome Value
apply_reverse k = strict (reverse_row k)

-- TRIM, LTRIM and RTRIM, given which ends are cut: they drop the characters of the second text, or white space without it
abbrev pub trim_row : ((ℕ → Bool) → List ℕ → List ℕ) → List Value → Outcome Value
trim_row cut (x ∷ []) = Ok (string (cut is_whitespace (characters x)))
trim_row cut (x ∷ set ∷ []) = Ok (string (cut (stands_in (characters set)) (characters x)))
trim_row cut _ = Ok value.Null

abbrev pub apply_ltrim : List Value → Outcome Value
apply_ltrim = strict (trim_row drop_front)

abbrev pub apply_rtrim : List Value → Outcome Value
apply_rtrim = strict (trim_row drop_back)

abbrev pub apply_trim : List Value → Outcome Value
apply_trim = strict (trim_row (λ drops xs. drop_back drops (drop_front drops xs)))

-- ---- arrays

abbrev pub split_row : List Value → Outcome Value
split_row (x ∷ separator ∷ []) = Ok (value.Array (map string (split_text (characters separator) (characters x))))
split_row _ = Ok value.Null

abbrev pub apply_split : List Value → Outcome Value
apply_split = strict split_row

-- the texts of the elements; one that is NULL is left out, or has the text that stands for it
abbrev pub element_texts : Option (List ℕ) → List Value → List (List ℕ)
element_texts standing [] = []
element_texts standing (x ∷ xs) = elim (is_null (out-Value x)) [
  | false ↦ content x ∷ element_texts standing xs
  | true ↦ elim standing [ None ↦ element_texts standing xs | Some text ↦ text ∷ element_texts standing xs ]
]

abbrev pub array_to_string_row : List Value → Outcome Value
array_to_string_row (xs ∷ separator ∷ []) = Ok (value.Text (joined_by (content separator) (element_texts None (elements xs))))
array_to_string_row (xs ∷ separator ∷ null_text ∷ []) = Ok (value.Text (joined_by (content separator) (element_texts (Some (content null_text)) (elements xs))))
array_to_string_row _ = Ok value.Null

abbrev pub apply_array_to_string : List Value → Outcome Value
apply_array_to_string = strict array_to_string_row

-- ---- base 16

abbrev pub to_hex_row : List Value → Outcome Value
to_hex_row (x ∷ []) = Ok (value.Text (to_hex (content x)))
to_hex_row _ = Ok value.Null

abbrev pub apply_to_hex : List Value → Outcome Value
apply_to_hex = strict to_hex_row

-- a character that is no digit is a fault
abbrev pub bytes_or_fault : Option (List ℕ) → Outcome Value
bytes_or_fault None = Err fault.Argument
bytes_or_fault (Some bytes) = Ok (value.Bytes bytes)

abbrev pub from_hex_row : List Value → Outcome Value
from_hex_row (x ∷ []) = bytes_or_fault (from_hex (characters x))
from_hex_row _ = Ok value.Null

abbrev pub apply_from_hex : List Value → Outcome Value
apply_from_hex = strict from_hex_row

-- ---- LIKE

abbrev pub truth : Outcome Bool → Outcome Value
truth (Ok b) = Ok (value.Bool b)
truth (Err f) = Err f

abbrev pub like_row : Kind → List Value → Outcome Value
like_row k (x ∷ p ∷ []) = truth (pattern.like (k.symbols x) (k.symbols p))
like_row k _ = Ok value.Null

abbrev pub apply_like : Kind → List Value → Outcome Value
apply_like k = strict (like_row k)
