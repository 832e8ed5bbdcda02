-- The functions on integers, a row each: what its call answers for values that fit the row. The numbers are whole numbers
-- of any size, and a result past its type is OUT_OF_RANGE.
use Rattle.std.specs.Prelude.{ℕ, ◌*◌, ◌-◌, ◌/◌, ◌%◌, ◌^◌, ℤ, pos, negsuc, neg_ℤ, nat_abs, ◌+ℤ◌, ◌-ℤ◌, ◌*ℤ◌, int_div, int_rem, bit_and, bit_or, bit_xor, nat_lt, ◌==◌, if◌then◌else◌, List, [], ◌∷◌, Ok, Err}
use Rattle.std.specs.Int.{w64, cast_unsigned, cast_signed, int_signum}
use Rattle.sql_types.specs.declared.value.Value.{Value}
use Rattle.sql_types.specs.declared.value.Value.TheVariants as value
use Rattle.sql_types.specs.declared.fault.FaultKind.TheVariants as fault
use Rattle.sql_types.specs.Outcome.{Outcome}
use Rattle.sql_types.specs.Takes.{strict, number, as_int64}

-- ---- the two types

-- a function of one number, and of two
abbrev pub of_one : (ℤ → Outcome Value) → List Value → Outcome Value
of_one f (x ∷ []) = f (number x)
of_one f _ = Ok value.Null

abbrev pub of_two : (ℤ → ℤ → Outcome Value) → List Value → Outcome Value
of_two f (x ∷ y ∷ []) = f (number x) (number y)
of_two f _ = Ok value.Null

-- ---- arithmetic; the type of the result is given by how a number is made one

-- `+`
abbrev pub sum_row : (ℤ → Outcome Value) → List Value → Outcome Value
sum_row make = of_two (λ a b. make (a +ℤ b))

abbrev pub apply_add : (ℤ → Outcome Value) → List Value → Outcome Value
apply_add make = strict (sum_row make)

-- binary `-`; of two UINT64 too it is an INT64
abbrev pub difference_row : List Value → Outcome Value
difference_row = of_two (λ a b. as_int64 (a -ℤ b))

abbrev pub apply_sub : List Value → Outcome Value
apply_sub = strict difference_row

-- `*`
abbrev pub product_row : (ℤ → Outcome Value) → List Value → Outcome Value
product_row make = of_two (λ a b. make (a *ℤ b))

abbrev pub apply_mul : (ℤ → Outcome Value) → List Value → Outcome Value
apply_mul make = strict (product_row make)

-- unary `-`
abbrev pub apply_neg : List Value → Outcome Value
apply_neg = strict (of_one (λ a. as_int64 (neg_ℤ a)))

-- unary `+`: itself
abbrev pub apply_pos : (ℤ → Outcome Value) → List Value → Outcome Value
apply_pos make = strict (of_one make)

-- ABS; that of the least INT64 is past the type
abbrev pub apply_abs : List Value → Outcome Value
apply_abs = strict (of_one (λ a. as_int64 (pos (nat_abs a))))

-- SIGN: -1, 0 or 1
abbrev pub apply_sign : List Value → Outcome Value
apply_sign = strict (of_one (λ a. as_int64 (int_signum a)))

-- a divisor that is 0 is a fault
abbrev pub unless_zero : ℤ → Outcome Value → Outcome Value
unless_zero b quotient = if nat_abs b == 0 then Err fault.DivisionByZero else quotient

-- DIV: the quotient, cut toward 0
abbrev pub apply_div : (ℤ → Outcome Value) → List Value → Outcome Value
apply_div make = strict (of_two (λ a b. unless_zero b (make (int_div a b))))

-- MOD: what is left, with the sign of the first
abbrev pub apply_mod : (ℤ → Outcome Value) → List Value → Outcome Value
apply_mod make = strict (of_two (λ a b. unless_zero b (make (int_rem a b))))

-- NULL in place of a fault
abbrev pub or_null : Outcome Value → Outcome Value
or_null (Ok x) = Ok x
or_null (Err f) = Ok value.Null

-- SAFE_ADD, SAFE_SUBTRACT and SAFE_MULTIPLY: as `+`, `-` and `*`
abbrev pub apply_safe_add : (ℤ → Outcome Value) → List Value → Outcome Value
apply_safe_add make values = or_null (apply_add make values)

abbrev pub apply_safe_subtract : List Value → Outcome Value
apply_safe_subtract values = or_null (apply_sub values)

abbrev pub apply_safe_multiply : (ℤ → Outcome Value) → List Value → Outcome Value
apply_safe_multiply make values = or_null (apply_mul make values)

-- ---- bits

-- A number of 64 bits: of an INT64 its two's complement.
pub record Bits : Type 0 where
  -- the bits of a number of the type
  pub bits : ℤ → ℕ
  -- the value of the type that has these bits
  pub made : ℕ → Value

abbrev pub int64_bits : Bits
int64_bits = record { bits = cast_unsigned w64; made = λ n. value.Int (cast_signed w64 n) }

abbrev pub uint64_bits : Bits
uint64_bits = record { bits = nat_abs; made = value.Uint }

-- `~`: each bit flipped
abbrev pub apply_flip : Bits → List Value → Outcome Value
apply_flip k = strict (of_one (λ a. Ok (k.made (18446744073709551615 - k.bits a))))

-- `&`, `^` and `|`: bit by bit
abbrev pub apply_bitand : Bits → List Value → Outcome Value
apply_bitand k = strict (of_two (λ a b. Ok (k.made (bit_and (k.bits a) (k.bits b)))))

abbrev pub apply_bitxor : Bits → List Value → Outcome Value
apply_bitxor k = strict (of_two (λ a b. Ok (k.made (bit_xor (k.bits a) (k.bits b)))))

abbrev pub apply_bitor : Bits → List Value → Outcome Value
apply_bitor k = strict (of_two (λ a b. Ok (k.made (bit_or (k.bits a) (k.bits b)))))

-- so many places to the left: zeros come in from the right, and from 64 places on nothing is left
abbrev pub shifted_left : ℕ → ℕ → ℕ
shifted_left bits places = if nat_lt places 64 then (bits * 2 ^ places) % 18446744073709551616 else 0

-- to the right: zeros come in from the left, also before a negative number
abbrev pub shifted_right : ℕ → ℕ → ℕ
shifted_right bits places = if nat_lt places 64 then bits / 2 ^ places else 0

-- a negative place is a fault
abbrev pub by_places : (ℕ → Value) → ℤ → Outcome Value
by_places shift (pos places) = Ok (shift places)
by_places shift (negsuc less) = Err fault.Argument

-- `<<` and `>>`
abbrev pub apply_shl : Bits → List Value → Outcome Value
apply_shl k = strict (of_two (λ a b. by_places (λ places. k.made (shifted_left (k.bits a) places)) b))

abbrev pub apply_shr : Bits → List Value → Outcome Value
apply_shr k = strict (of_two (λ a b. by_places (λ places. k.made (shifted_right (k.bits a) places)) b))
