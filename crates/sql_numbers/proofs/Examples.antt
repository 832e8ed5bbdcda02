-- Worked examples of the definitions, by computation.
use Rattle.std.proofs.Common.{◌≡◌, refl, pos, negsuc, false, [], ◌∷◌, Ok, Err}
use denote.Hole.Carrier.{out}
use Rattle.sql_types.specs.declared.value.Value.{out-Value}
use Rattle.sql_types.specs.declared.value.Value.TheVariants as value
use Rattle.sql_types.specs.declared.fault.FaultKind.TheVariants as fault
use Rattle.sql_types.specs.Takes.{as_int64}
use Rattle.sql_numbers.specs.Integers.{int64_bits, apply_sub, apply_div, apply_mod, apply_shr}
use Rattle.sql_numbers.specs.Comparisons.{apply_between}
use Rattle.sql_numbers.specs.Arrays.{number_of_steps, generated}

-- 18446744073709551615 - 9223372036854775808
difference_of_two_large : apply_sub (value.Uint 18446744073709551615 ∷ value.Uint 9223372036854775808 ∷ []) ≡ Ok (value.Int (pos 9223372036854775807))
unfolding out-Value out
difference_of_two_large = refl

-- DIV(-7, 2) and MOD(-7, 2)
toward_zero : apply_div as_int64 (value.Int (negsuc 6) ∷ value.Int (pos 2) ∷ []) ≡ Ok (value.Int (negsuc 2))
unfolding out-Value out
toward_zero = refl

sign_of_the_first : apply_mod as_int64 (value.Int (negsuc 6) ∷ value.Int (pos 2) ∷ []) ≡ Ok (value.Int (negsuc 0))
unfolding out-Value out
sign_of_the_first = refl

-- DIV and MOD of the least INT64 by -1
past_the_type : apply_div as_int64 (value.Int (negsuc 9223372036854775807) ∷ value.Int (negsuc 0) ∷ []) ≡ Err fault.OutOfRange
unfolding out-Value out
past_the_type = refl

nothing_left : apply_mod as_int64 (value.Int (negsuc 9223372036854775807) ∷ value.Int (negsuc 0) ∷ []) ≡ Ok (value.Int (pos 0))
unfolding out-Value out
nothing_left = refl

-- DIV(NULL, 0)
null_first : apply_div as_int64 (value.Null ∷ value.Int (pos 0) ∷ []) ≡ Ok value.Null
unfolding out-Value out
null_first = refl

-- -1 >> 1
zeros_come_in : apply_shr int64_bits (value.Int (negsuc 0) ∷ value.Int (pos 1) ∷ []) ≡ Ok (value.Int (pos 9223372036854775807))
unfolding out-Value out
zeros_come_in = refl

-- 0 >> -1
negative_place : apply_shr int64_bits (value.Int (pos 0) ∷ value.Int (negsuc 0) ∷ []) ≡ Err fault.Argument
unfolding out-Value out
negative_place = refl

-- 5 BETWEEN NULL AND 3
a_null_bound : apply_between (value.Int (pos 5) ∷ value.Null ∷ value.Int (pos 3) ∷ []) ≡ Ok (value.Bool false)
unfolding out-Value out
a_null_bound = refl

-- GENERATE_ARRAY(-9223372036854775808, 9223372036854775807, 9223372036854775807) has three elements
from_end_to_end : number_of_steps (negsuc 9223372036854775807) (pos 9223372036854775807) (pos 9223372036854775807) ≡ 3
from_end_to_end = refl

down_by_two : generated (pos 5) (pos 1) (negsuc 1) ≡ Ok (value.Array (value.Int (pos 5) ∷ value.Int (pos 3) ∷ value.Int (pos 1) ∷ []))
down_by_two = refl

no_step : generated (pos 3) (pos 1) (pos 0) ≡ Err fault.Argument
no_step = refl

too_many : generated (pos 0) (pos 1048576) (pos 1) ≡ Err fault.OutOfRange
too_many = refl
