-- Comparisons, logic and the functions that choose one of their arguments, a row each.
use Rattle.std.specs.Prelude.{Bool, true, false, not, List, [], ◌∷◌, Option, None, Some, Ok, Err}
use Rattle.std.specs.declared.cmp.Ordering.{Ordering}
use Rattle.std.specs.declared.cmp.Ordering.TheVariants.{Less, Equal, Greater}
use Rattle.sql_types.specs.declared.value.Value.{Value, out-Value}
use Rattle.sql_types.specs.declared.value.Value.TheVariants as value
use Rattle.sql_types.specs.declared.fault.FaultKind.TheVariants as fault
use Rattle.sql_types.specs.Before.{is_null, order}
use Rattle.sql_types.specs.Same.{equal, both_true}
use Rattle.sql_types.specs.SameValue.{same_value}
use Rattle.sql_types.specs.Logic.{opposite, either_true, truth_of, of_truth}
use Rattle.sql_types.specs.Outcome.{Outcome}
use Rattle.sql_types.specs.Takes.{strict}

abbrev pub is_null_value : Value → Bool
is_null_value x = is_null (out-Value x)

-- ---- equality, three-valued: NULL beside anything is NULL, and STRUCTs are equal by AND over their fields

-- `=`
abbrev pub apply_eq : List Value → Outcome Value
apply_eq (x ∷ y ∷ []) = Ok (of_truth (equal x y))
apply_eq _ = Ok value.Null

-- `!=`
abbrev pub apply_ne : List Value → Outcome Value
apply_ne (x ∷ y ∷ []) = Ok (of_truth (opposite (equal x y)))
apply_ne _ = Ok value.Null

-- IS DISTINCT FROM: two NULLs are the same, and the answer is never NULL
abbrev pub apply_distinct : List Value → Outcome Value
apply_distinct (x ∷ y ∷ []) = Ok (value.Bool (not (same_value x y)))
apply_distinct _ = Ok value.Null

-- ---- order

abbrev pub is_less : Ordering → Bool
is_less Less = true
is_less Equal = false
is_less Greater = false

abbrev pub is_greater : Ordering → Bool
is_greater Less = false
is_greater Equal = false
is_greater Greater = true

-- two values by their order: NULL beside anything is NULL
abbrev pub ordered : (Ordering → Bool) → Value → Value → Option Bool
ordered holds x y = elim (is_null_value x) [ true ↦ None | false ↦ elim (is_null_value y) [ true ↦ None | false ↦ Some (holds (order x y)) ] ]

abbrev pub order_row : (Ordering → Bool) → List Value → Outcome Value
order_row holds (x ∷ y ∷ []) = Ok (of_truth (ordered holds x y))
order_row holds _ = Ok value.Null

-- `<`, `<=`, `>` and `>=`
abbrev pub apply_lt : List Value → Outcome Value
apply_lt = order_row is_less

abbrev pub apply_le : List Value → Outcome Value
apply_le = order_row (λ o. not (is_greater o))

abbrev pub apply_gt : List Value → Outcome Value
apply_gt = order_row is_greater

abbrev pub apply_ge : List Value → Outcome Value
apply_ge = order_row (λ o. not (is_less o))

-- BETWEEN: at least the second and at most the third, joined by three-valued AND, so a NULL bound may give FALSE
abbrev pub apply_between : List Value → Outcome Value
apply_between (x ∷ low ∷ high ∷ []) = Ok (of_truth (both_true (ordered (λ o. not (is_less o)) x low) (ordered (λ o. not (is_greater o)) x high)))
apply_between _ = Ok value.Null

-- the later of two where it is greater, and where it is less
abbrev pub greater_of : Value → Value → Value
greater_of x y = elim (order y x) [ Greater ↦ y | Equal ↦ x | Less ↦ x ]

abbrev pub lesser_of : Value → Value → Value
lesser_of x y = elim (order y x) [ Less ↦ y | Equal ↦ x | Greater ↦ x ]

-- the one that is chosen pair by pair, from the left
abbrev pub chosen : (Value → Value → Value) → Value → List Value → Value
chosen choose x [] = x
chosen choose x (y ∷ ys) = chosen choose (choose x y) ys

abbrev pub chosen_row : (Value → Value → Value) → List Value → Outcome Value
chosen_row choose [] = Ok value.Null
chosen_row choose (x ∷ xs) = Ok (chosen choose x xs)

-- GREATEST and LEAST of one or more; a NULL argument gives NULL
abbrev pub apply_greatest : List Value → Outcome Value
apply_greatest = strict (chosen_row greater_of)

abbrev pub apply_least : List Value → Outcome Value
apply_least = strict (chosen_row lesser_of)

-- ---- logic, three-valued

abbrev pub apply_not : List Value → Outcome Value
apply_not (x ∷ []) = Ok (of_truth (opposite (truth_of x)))
apply_not _ = Ok value.Null

abbrev pub apply_and : List Value → Outcome Value
apply_and (x ∷ y ∷ []) = Ok (of_truth (both_true (truth_of x) (truth_of y)))
apply_and _ = Ok value.Null

abbrev pub apply_or : List Value → Outcome Value
apply_or (x ∷ y ∷ []) = Ok (of_truth (either_true (truth_of x) (truth_of y)))
apply_or _ = Ok value.Null

-- ---- tests, never NULL

abbrev pub apply_is_null : List Value → Outcome Value
apply_is_null (x ∷ []) = Ok (value.Bool (is_null_value x))
apply_is_null _ = Ok value.Null

abbrev pub is_truth : Bool → Option Bool → Bool
is_truth b None = false
is_truth true (Some c) = c
is_truth false (Some c) = not c

abbrev pub apply_is_true : List Value → Outcome Value
apply_is_true (x ∷ []) = Ok (value.Bool (is_truth true (truth_of x)))
apply_is_true _ = Ok value.Null

abbrev pub apply_is_false : List Value → Outcome Value
apply_is_false (x ∷ []) = Ok (value.Bool (is_truth false (truth_of x)))
apply_is_false _ = Ok value.Null

-- ---- choice

-- IF: NULL counts as FALSE
abbrev pub apply_if : List Value → Outcome Value
apply_if (test ∷ x ∷ y ∷ []) = Ok (elim (is_truth true (truth_of test)) [ true ↦ x | false ↦ y ])
apply_if _ = Ok value.Null

-- IFNULL of two, and COALESCE of one or more: the first that isn't NULL
abbrev pub apply_coalesce : List Value → Outcome Value
apply_coalesce [] = Ok value.Null
apply_coalesce (x ∷ xs) = elim (is_null_value x) [ true ↦ apply_coalesce xs | false ↦ Ok x ]

-- NULLIF: NULL where the two are equal, else the first
abbrev pub apply_nullif : List Value → Outcome Value
apply_nullif (x ∷ y ∷ []) = Ok (elim (is_truth true (equal x y)) [ true ↦ value.Null | false ↦ x ])
apply_nullif _ = Ok value.Null

-- ERROR: always a fault, of NULL too
abbrev pub apply_error : List Value → Outcome Value
apply_error values = Err fault.User

-- IFERROR, NULLIFERROR and ISERROR of values: what they catch is a fault of their first argument, which has none here
abbrev pub apply_iferror : List Value → Outcome Value
apply_iferror (x ∷ y ∷ []) = Ok x
apply_iferror _ = Ok value.Null

abbrev pub apply_nulliferror : List Value → Outcome Value
apply_nulliferror (x ∷ []) = Ok x
apply_nulliferror _ = Ok value.Null

abbrev pub apply_iserror : List Value → Outcome Value
apply_iserror (x ∷ []) = Ok (value.Bool false)
apply_iserror _ = Ok value.Null
