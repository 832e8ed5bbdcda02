-- What comparisons, logic and tests give: truth values, or NULL.
use Rattle.std.proofs.Common.{Bool, true, false, List, [], ◌∷◌}
use Rattle.std.specs.Prelude.{not}
use Rattle.std.specs.declared.cmp.Ordering.{Ordering}
use Rattle.sql_types.specs.declared.sql_type.SqlType.TheVariants as ty
use Rattle.sql_types.specs.declared.value.Value.{Value}
use Rattle.sql_types.specs.Logic.{opposite, either_true, truth_of}
use Rattle.sql_types.specs.Same.{equal, both_true}
use Rattle.sql_types.specs.SameValue.{same_value}
use Rattle.sql_numbers.specs.Comparisons as c
use Rattle.sql_gives.proofs.GivesLaws.{Gives, null_fits, bool_fits, truth_fits}

-- ---- two values

pub eq_gives : (values : List Value) → Gives ty.Bool (c.apply_eq values)
eq_gives (x ∷ y ∷ []) = truth_fits (equal x y)
eq_gives _ = null_fits ty.Bool

pub ne_gives : (values : List Value) → Gives ty.Bool (c.apply_ne values)
ne_gives (x ∷ y ∷ []) = truth_fits (opposite (equal x y))
ne_gives _ = null_fits ty.Bool

pub distinct_gives : (values : List Value) → Gives ty.Bool (c.apply_distinct values)
distinct_gives (x ∷ y ∷ []) = bool_fits (not (same_value x y))
distinct_gives _ = null_fits ty.Bool

pub order_gives : (holds : Ordering → Bool) (values : List Value) → Gives ty.Bool (c.order_row holds values)
order_gives holds (x ∷ y ∷ []) = truth_fits (c.ordered holds x y)
order_gives holds _ = null_fits ty.Bool

pub lt_gives : (values : List Value) → Gives ty.Bool (c.apply_lt values)
lt_gives = order_gives c.is_less

pub le_gives : (values : List Value) → Gives ty.Bool (c.apply_le values)
le_gives = order_gives (λ o. not (c.is_greater o))

pub gt_gives : (values : List Value) → Gives ty.Bool (c.apply_gt values)
gt_gives = order_gives c.is_greater

pub ge_gives : (values : List Value) → Gives ty.Bool (c.apply_ge values)
ge_gives = order_gives (λ o. not (c.is_less o))

pub between_gives : (values : List Value) → Gives ty.Bool (c.apply_between values)
between_gives (x ∷ low ∷ high ∷ []) =
    truth_fits (both_true (c.ordered (λ o. not (c.is_less o)) x low) (c.ordered (λ o. not (c.is_greater o)) x high))
between_gives _ = null_fits ty.Bool

-- ---- logic

pub not_gives : (values : List Value) → Gives ty.Bool (c.apply_not values)
not_gives (x ∷ []) = truth_fits (opposite (truth_of x))
not_gives _ = null_fits ty.Bool

pub and_gives : (values : List Value) → Gives ty.Bool (c.apply_and values)
and_gives (x ∷ y ∷ []) = truth_fits (both_true (truth_of x) (truth_of y))
and_gives _ = null_fits ty.Bool

pub or_gives : (values : List Value) → Gives ty.Bool (c.apply_or values)
or_gives (x ∷ y ∷ []) = truth_fits (either_true (truth_of x) (truth_of y))
or_gives _ = null_fits ty.Bool

-- ---- tests of one value

pub is_null_gives : (values : List Value) → Gives ty.Bool (c.apply_is_null values)
is_null_gives (x ∷ []) = bool_fits (c.is_null_value x)
is_null_gives _ = null_fits ty.Bool

pub is_true_gives : (values : List Value) → Gives ty.Bool (c.apply_is_true values)
is_true_gives (x ∷ []) = bool_fits (c.is_truth true (truth_of x))
is_true_gives _ = null_fits ty.Bool

pub is_false_gives : (values : List Value) → Gives ty.Bool (c.apply_is_false values)
is_false_gives (x ∷ []) = bool_fits (c.is_truth false (truth_of x))
is_false_gives _ = null_fits ty.Bool

pub iserror_gives : (values : List Value) → Gives ty.Bool (c.apply_iserror values)
iserror_gives (x ∷ []) = bool_fits false
iserror_gives _ = null_fits ty.Bool
