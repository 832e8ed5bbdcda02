-- The number that a text writes, and the integers of each type.
use Rattle.std.specs.Prelude.{ℕ, ◌+◌, ◌*◌, ◌^◌, ℤ, pos, neg_ℤ, nat_eq, nat_lt, if◌then◌else◌, List, [], ◌∷◌, drop, codes, Option, Some, None, option_map, option_and_then}
use Rattle.std.specs.List.{starts_with}
use Rattle.std.specs.Char.{is_digit, digit_value}
use Rattle.sql_types.specs.Fits.{within}

-- a number with one more digit of the radix behind it
abbrev pub with_digit : ℕ → ℕ → ℕ → Option ℕ
with_digit radix number c = if is_digit c radix then Some (number * radix + digit_value c) else None

-- a number with more digits behind it
abbrev pub numeral_after : ℕ → ℕ → List ℕ → Option ℕ
numeral_after radix number [] = Some number
numeral_after radix number (c ∷ cs) = option_and_then (λ next. numeral_after radix next cs) (with_digit radix number c)

-- one or more digits of the radix, of which zeros may lead
abbrev pub numeral : ℕ → List ℕ → Option ℕ
numeral radix [] = None
numeral radix (c ∷ cs) = numeral_after radix 0 (c ∷ cs)

-- `0x` and hex digits of either case, or decimal digits
abbrev pub unsigned : List ℕ → Option ℕ
unsigned text = if starts_with nat_eq text (codes "0x") then numeral 16 (drop 2 text) else numeral 10 text

-- a sign may stand first: `-`, or `+`, which changes nothing
abbrev pub integer : List ℕ → Option ℤ
integer text =
    if starts_with nat_eq text (codes "-") then option_map (λ n. neg_ℤ (pos n)) (unsigned (drop 1 text))
    else if starts_with nat_eq text (codes "+") then option_map pos (unsigned (drop 1 text))
    else option_map pos (unsigned text)

-- a number within INT64
abbrev pub only_int64 : ℤ → Option ℤ
only_int64 n = if within (neg_ℤ (pos 9223372036854775808)) (pos 9223372036854775807) n then Some n else None

-- the INT64 that a text writes
abbrev pub int64_of : List ℕ → Option ℤ
int64_of text = option_and_then only_int64 (integer text)

-- a number that 64 bits hold, as the readers go over it before its sign
abbrev pub only_u64 : ℕ → Option ℕ
only_u64 n = if nat_lt n (2 ^ 64) then Some n else None

-- a number that 64 bits and a sign hold, in which each type's numbers lie
abbrev pub only_wide : ℤ → Option ℤ
only_wide n = if within (neg_ℤ (pos 18446744073709551615)) (pos 18446744073709551615) n then Some n else None
