-- The functions on arrays, a row each: what its call answers for values that fit the row.
use Rattle.std.specs.Prelude.{ℕ, zero, suc, ◌/◌, ◌==◌, ℤ, pos, negsuc, ◌+ℤ◌, ◌-ℤ◌, nat_abs, nat_lt, Bool, true, false, ◌||◌, if◌then◌else◌, List, [], ◌∷◌, ◌++◌, length, reverse, Ok, Err}
use Rattle.sql_types.specs.declared.value.Value.{Value}
use Rattle.sql_types.specs.declared.value.Value.TheVariants as value
use Rattle.sql_types.specs.declared.fault.FaultKind.TheVariants as fault
use Rattle.sql_types.specs.Same.{equal}
use Rattle.sql_types.specs.Outcome.{Outcome}
use Rattle.sql_types.specs.Takes.{strict, number, elements, count_value}
use Rattle.sql_numbers.specs.Comparisons.{is_truth}

-- ---- lengths and parts

abbrev pub length_row : List Value → Outcome Value
length_row (xs ∷ []) = count_value (length (elements xs))
length_row _ = Ok value.Null

-- ARRAY_LENGTH
abbrev pub apply_array_length : List Value → Outcome Value
apply_array_length = strict length_row

-- an array without elements has no first and no last one
abbrev pub first_of : List Value → Outcome Value
first_of [] = Err fault.Index
first_of (x ∷ xs) = Ok x

abbrev pub first_row : List Value → Outcome Value
first_row (xs ∷ []) = first_of (elements xs)
first_row _ = Ok value.Null

abbrev pub last_row : List Value → Outcome Value
last_row (xs ∷ []) = first_of (reverse (elements xs))
last_row _ = Ok value.Null

-- ARRAY_FIRST and ARRAY_LAST
abbrev pub apply_array_first : List Value → Outcome Value
apply_array_first = strict first_row

abbrev pub apply_array_last : List Value → Outcome Value
apply_array_last = strict last_row

-- ---- joining and turning

abbrev pub all_elements : List Value → List Value
all_elements [] = []
all_elements (xs ∷ more) = elements xs ++ all_elements more

-- `||` of two arrays, and ARRAY_CONCAT of one or more
abbrev pub apply_array_concat : List Value → Outcome Value
apply_array_concat = strict (λ values. Ok (value.Array (all_elements values)))

abbrev pub reverse_row : List Value → Outcome Value
reverse_row (xs ∷ []) = Ok (value.Array (reverse (elements xs)))
reverse_row _ = Ok value.Null

-- ARRAY_REVERSE
abbrev pub apply_array_reverse : List Value → Outcome Value
apply_array_reverse = strict reverse_row

-- ---- search

-- some element is equal to the value
abbrev pub some_equal : Value → List Value → Bool
some_equal x [] = false
some_equal x (y ∷ ys) = is_truth true (equal y x) || some_equal x ys

abbrev pub includes_row : List Value → Outcome Value
includes_row (xs ∷ x ∷ []) = Ok (value.Bool (some_equal x (elements xs)))
includes_row _ = Ok value.Null

-- ARRAY_INCLUDES: TRUE where some element is equal, else FALSE
abbrev pub apply_array_includes : List Value → Outcome Value
apply_array_includes = strict includes_row

-- ---- GENERATE_ARRAY

-- how many steps lead from the one number to the other without passing it, by how far apart they are and the size of a step
abbrev pub steps : ℤ → ℕ → ℕ
steps (pos distance) size = suc (distance / size)
steps (negsuc less) size = 0

-- how many numbers there are from the first on, each a step after the one before, none past the last
abbrev pub number_of_steps : ℤ → ℤ → ℤ → ℕ
number_of_steps first last (pos size) = steps (last -ℤ first) size
number_of_steps first last (negsuc less) = steps (first -ℤ last) (suc less)

-- so many numbers, each a step after the one before
abbrev pub in_steps : ℤ → ℤ → ℕ → List Value
in_steps first step zero = []
in_steps first step (suc n) = value.Int first ∷ in_steps (first +ℤ step) step n

abbrev pub at_most_so_many : ℤ → ℤ → ℕ → Outcome Value
at_most_so_many first step n = if nat_lt 1048576 n then Err fault.OutOfRange else Ok (value.Array (in_steps first step n))

-- a step of 0 is a fault, and so are more than 1,048,576 elements
abbrev pub generated : ℤ → ℤ → ℤ → Outcome Value
generated first last step = if nat_abs step == 0 then Err fault.Argument else at_most_so_many first step (number_of_steps first last step)

abbrev pub generate_row : List Value → Outcome Value
generate_row (first ∷ last ∷ []) = generated (number first) (number last) (pos 1)
generate_row (first ∷ last ∷ step ∷ []) = generated (number first) (number last) (number step)
generate_row _ = Ok value.Null

-- GENERATE_ARRAY, with a step of 1 where none is given
abbrev pub apply_generate_array : List Value → Outcome Value
apply_generate_array = strict generate_row
