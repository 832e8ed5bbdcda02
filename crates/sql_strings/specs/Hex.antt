-- Bytes in digits of base 16.
use Rattle.std.specs.Prelude.{ℕ, ◌+◌, ◌-◌, ◌*◌, ◌/◌, ◌%◌, ◌&&◌, ◌==◌, Bool, nat_lt, nat_le, if◌then◌else◌, List, [], ◌∷◌, length, Option, None, Some}

-- a digit, in lower case
abbrev pub hex_digit : ℕ → ℕ
hex_digit n = if nat_lt n 10 then 48 + n else 87 + n

-- two digits a byte
abbrev pub to_hex : List ℕ → List ℕ
to_hex [] = []
to_hex (b ∷ bs) = hex_digit (b / 16) ∷ hex_digit (b % 16) ∷ to_hex bs

-- the value of a digit in either case; any other character has none
abbrev pub digit_value : ℕ → Option ℕ
digit_value c =
    if nat_le 48 c && nat_le c 57 then Some (c - 48) else
    if nat_le 97 c && nat_le c 102 then Some (c - 87) else
    if nat_le 65 c && nat_le c 70 then Some (c - 55) else None

-- a byte of two digits, before the bytes behind it
abbrev pub with_byte : Option ℕ → Option ℕ → Option (List ℕ) → Option (List ℕ)
with_byte (Some high) (Some low) (Some bytes) = Some ((16 * high + low) ∷ bytes)
with_byte (Some high) (Some low) None = None
with_byte (Some high) None rest = None
with_byte None low rest = None

-- the bytes of digits in pairs
abbrev pub pairs_of : List ℕ → Option (List ℕ)
pairs_of [] = Some []
pairs_of (c ∷ []) = None
pairs_of (c ∷ d ∷ more) = with_byte (digit_value c) (digit_value d) (pairs_of more)

-- an odd number of digits is read as with a `0` before it
abbrev pub from_hex : List ℕ → Option (List ℕ)
from_hex digits = if length digits % 2 == 0 then pairs_of digits else pairs_of (48 ∷ digits)

-- the digits, with a `0` before them where their number is odd
abbrev pub padded : Bool → List ℕ → List ℕ
padded is_odd digits = if is_odd then 48 ∷ digits else digits
