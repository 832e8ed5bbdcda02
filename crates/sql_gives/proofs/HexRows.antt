-- What TO_HEX and FROM_HEX give: digits are a STRING, and two digits make a byte.
use Rattle.std.proofs.Common.{◌≡◌, ℕ, zero, suc, ◌+◌, ◌-◌, ◌*◌, ◌/◌, ◌%◌, ◌<◌, ◌≤◌, Bool, true, false, List, [], ◌∷◌, length, Option, Some, None, refl, arith, ltb-true}
use Rattle.std.specs.Prelude.{IfSome, nat_lt, nat_le, ◌&&◌, ◌==◌, if◌then◌else◌}
use Rattle.std.specs.List.{list_all}
use Rattle.std.specs.Str.{IsAscii}
use Rattle.std.proofs.lemmas.Bool.Decides.{nat_tests}
use Rattle.std.proofs.lemmas.Grind.{common_steps}
use Rattle.std.proofs.lemmas.Str.{IsUtf8-from_ascii}
use Rattle.sql_types.specs.declared.sql_type.SqlType.TheVariants as ty
use Rattle.sql_types.specs.declared.value.Value.{Value}
use Rattle.sql_types.specs.Fits.{fits}
use Rattle.sql_types.specs.Takes.{content, fits_types}
use Rattle.sql_types.proofs.TestParts.{first as left_of, second as right_of}
use Rattle.sql_strings.specs.Hex.{hex_digit, to_hex, digit_value, with_byte, pairs_of, from_hex}
use Rattle.sql_strings.specs.Rows as s
use Rattle.sql_gives.proofs.EachPasses.{both}
use Rattle.sql_gives.proofs.GivesLaws.{Gives, null_fits, strict_gives}
use Rattle.sql_gives.proofs.SymbolLaws.{is_byte, content_bytes, text_fits, bytes_fit}

-- ---- TO_HEX

digit_by : (b : Bool) (n : ℕ) → n < 16 → (if b then 48 + n else 87 + n) < 128
digit_by true n small = omega arith
digit_by false n small = omega arith

digit_ascii : (n : ℕ) → n < 16 → hex_digit n < 128
digit_ascii n small = digit_by (nat_lt n 10) n small

more_ascii : (x : ℕ) (xs : List ℕ) → x < 128 → IsAscii xs → IsAscii (x ∷ xs)
more_ascii x xs small all zero = small
more_ascii x xs small all (suc i) = all i

to_hex_ascii : (bytes : List ℕ) → list_all is_byte bytes ≡ true → IsAscii (to_hex bytes)
to_hex_ascii [] all = λ i. omega arith
to_hex_ascii (b ∷ bytes) all =
    let byte : b < 256 = ltb-true b 256 (left_of (is_byte b) _ all) in
    more_ascii (hex_digit (b / 16)) (hex_digit (b % 16) ∷ to_hex bytes) (digit_ascii (b / 16) (omega arith))
    (more_ascii (hex_digit (b % 16)) (to_hex bytes) (digit_ascii (b % 16) (omega arith)) (to_hex_ascii bytes (right_of (is_byte b) _ all)))

pub to_hex_gives : (values : List Value) → fits_types (ty.Bytes ∷ []) values ≡ true → Gives ty.Text (s.apply_to_hex values)
to_hex_gives values fit = strict_gives ty.Text s.to_hex_row values (row values fit)
  where
    row : (values : List Value) → fits_types (ty.Bytes ∷ []) values ≡ true → Gives ty.Text (s.to_hex_row values)
    row (x ∷ []) fit = text_fits (to_hex (content x)) (IsUtf8-from_ascii (to_hex (content x)) (to_hex_ascii (content x) (content_bytes x (left_of (fits ty.Bytes x) _ fit))))
    row _ fit = null_fits ty.Text

-- ---- FROM_HEX

abbrev Small : ℕ → Type 0
Small n = n < 16

value_by : (b : Bool) (n : ℕ) (o : Option ℕ) → (b ≡ true → Small n) → IfSome o Small → IfSome (if b then Some n else o) Small
value_by true n o small more = small refl
value_by false n o small more = more

most : (low high c : ℕ) → (nat_le low c && nat_le c high) ≡ true → c ≤ high
most low high c is = let e : nat_le c high ≡ true = right_of (nat_le low c) _ is in grind (arith, nat_tests, e)

value_small : (c : ℕ) → IfSome (digit_value c) Small
value_small c =
    value_by (nat_le 48 c && nat_le c 57) (c - 48) _ (λ e. let h = most 48 57 c e in omega arith)
    (value_by (nat_le 97 c && nat_le c 102) (c - 87) _ (λ e. let h = most 97 102 c e in omega arith)
    (value_by (nat_le 65 c && nat_le c 70) (c - 55) None (λ e. let h = most 65 70 c e in omega arith) tt))

abbrev AllBytes : List ℕ → Type 0
AllBytes bytes = list_all is_byte bytes ≡ true

byte_of : (high low : ℕ) → Small high → Small low → is_byte (16 * high + low) ≡ true
byte_of high low a b = let h : 16 * high + low < 256 = omega arith in grind (arith, common_steps)

with_byte_passes : (high low : Option ℕ) (rest : Option (List ℕ)) → IfSome high Small → IfSome low Small → IfSome rest AllBytes → IfSome (with_byte high low rest) AllBytes
with_byte_passes (Some high) (Some low) (Some bytes) a b all = both (is_byte (16 * high + low)) (list_all is_byte bytes) (byte_of high low a b) all
with_byte_passes (Some high) (Some low) None a b all = tt
with_byte_passes (Some high) None rest a b all = tt
with_byte_passes None low rest a b all = tt

pairs_pass : (digits : List ℕ) → IfSome (pairs_of digits) AllBytes
pairs_pass [] = refl
pairs_pass (c ∷ []) = tt
pairs_pass (c ∷ d ∷ more) = with_byte_passes (digit_value c) (digit_value d) (pairs_of more) (value_small c) (value_small d) (pairs_pass more)

from_hex_by : (b : Bool) (digits : List ℕ) → IfSome (if b then pairs_of digits else pairs_of (48 ∷ digits)) AllBytes
from_hex_by true digits = pairs_pass digits
from_hex_by false digits = pairs_pass (48 ∷ digits)

bytes_or_fault_gives : (o : Option (List ℕ)) → IfSome o AllBytes → Gives ty.Bytes (s.bytes_or_fault o)
bytes_or_fault_gives None all = tt
bytes_or_fault_gives (Some bytes) all = bytes_fit bytes all

pub from_hex_gives : (values : List Value) → Gives ty.Bytes (s.apply_from_hex values)
from_hex_gives values = strict_gives ty.Bytes s.from_hex_row values (row values)
  where
    row : (values : List Value) → Gives ty.Bytes (s.from_hex_row values)
    row (x ∷ []) = bytes_or_fault_gives (from_hex (s.characters x)) (from_hex_by (length (s.characters x) % 2 == 0) (s.characters x))
    row _ = null_fits ty.Bytes
