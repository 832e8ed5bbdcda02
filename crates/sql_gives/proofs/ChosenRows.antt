-- What the rows give that choose one of their arguments: the type that all of these fit.
use Rattle.std.proofs.Common.{◌≡◌, Bool, true, false, List, [], ◌∷◌, Ok}
use Rattle.std.specs.declared.cmp.Ordering.{Ordering}
use Rattle.std.specs.declared.cmp.Ordering.TheVariants.{Less, Equal, Greater}
use Rattle.sql_types.specs.declared.sql_type.SqlType.{SqlType}
use Rattle.sql_types.specs.declared.value.Value.{Value}
use Rattle.sql_types.specs.declared.value.Value.TheVariants as value
use Rattle.sql_types.specs.Before.{order}
use Rattle.sql_types.specs.Fits.{fits}
use Rattle.sql_types.specs.Logic.{truth_of}
use Rattle.sql_types.specs.Same.{equal}
use Rattle.sql_types.specs.Takes.{fits_types, all_fit}
use Rattle.sql_types.proofs.TestParts.{first as left_of, second as right_of}
use Rattle.sql_numbers.specs.Comparisons as c
use Rattle.sql_gives.proofs.GivesLaws.{Gives, null_fits, strict_gives}

either : (s : SqlType) (b : Bool) (x y : Value) → fits s x ≡ true → fits s y ≡ true → fits s (elim b [ true ↦ x | false ↦ y ]) ≡ true
either s true x y fit other = fit
either s false x y fit other = other

-- IF: the test's type is of no weight
pub if_gives : (s condition : SqlType) (values : List Value) → fits_types (condition ∷ s ∷ s ∷ []) values ≡ true → Gives s (c.apply_if values)
if_gives s condition (x ∷ y ∷ z ∷ []) fit =
    let behind = right_of (fits condition x) _ fit in
    either s (c.is_truth true (truth_of x)) y z (left_of (fits s y) _ behind) (left_of (fits s z) _ (right_of (fits s y) _ behind))
if_gives s condition [] fit = null_fits s
if_gives s condition (x ∷ []) fit = null_fits s
if_gives s condition (x ∷ y ∷ []) fit = null_fits s
if_gives s condition (x ∷ y ∷ z ∷ u ∷ more) fit = null_fits s

coalesced : (s : SqlType) (b : Bool) (x : Value) (xs : List Value) → fits s x ≡ true → Gives s (c.apply_coalesce xs) → Gives s (elim b [ true ↦ c.apply_coalesce xs | false ↦ Ok x ])
coalesced s true x xs fit more = more
coalesced s false x xs fit more = fit

pub coalesce_gives : (s : SqlType) (values : List Value) → all_fit s values ≡ true → Gives s (c.apply_coalesce values)
coalesce_gives s [] fit = null_fits s
coalesce_gives s (x ∷ xs) fit =
    coalesced s (c.is_null_value x) x xs (left_of (fits s x) _ fit) (coalesce_gives s xs (right_of (fits s x) _ fit))

pub nullif_gives : (s : SqlType) (values : List Value) → all_fit s values ≡ true → Gives s (c.apply_nullif values)
nullif_gives s (x ∷ y ∷ []) fit = either s (c.is_truth true (equal x y)) value.Null x (null_fits s) (left_of (fits s x) _ fit)
nullif_gives s [] fit = null_fits s
nullif_gives s (x ∷ []) fit = null_fits s
nullif_gives s (x ∷ y ∷ z ∷ more) fit = null_fits s

pub iferror_gives : (s : SqlType) (values : List Value) → all_fit s values ≡ true → Gives s (c.apply_iferror values)
iferror_gives s (x ∷ y ∷ []) fit = left_of (fits s x) _ fit
iferror_gives s [] fit = null_fits s
iferror_gives s (x ∷ []) fit = null_fits s
iferror_gives s (x ∷ y ∷ z ∷ more) fit = null_fits s

pub nulliferror_gives : (s : SqlType) (values : List Value) → all_fit s values ≡ true → Gives s (c.apply_nulliferror values)
nulliferror_gives s (x ∷ []) fit = left_of (fits s x) _ fit
nulliferror_gives s [] fit = null_fits s
nulliferror_gives s (x ∷ y ∷ more) fit = null_fits s

-- ---- the greatest and the least

-- a choice of two keeps the type of both
abbrev Keeps : SqlType → (Value → Value → Value) → Type 0
Keeps s choose = (x y : Value) → fits s x ≡ true → fits s y ≡ true → fits s (choose x y) ≡ true

by_order : (s : SqlType) (o : Ordering) (x y : Value) → fits s x ≡ true → fits s y ≡ true → (fits s (elim o [ Greater ↦ y | Equal ↦ x | Less ↦ x ]) ≡ true) × (fits s (elim o [ Less ↦ y | Equal ↦ x | Greater ↦ x ]) ≡ true)
by_order s Less x y fit other = (fit, other)
by_order s Equal x y fit other = (fit, fit)
by_order s Greater x y fit other = (other, fit)

chosen_fits : (s : SqlType) (choose : Value → Value → Value) → Keeps s choose → (x : Value) (xs : List Value) → fits s x ≡ true → all_fit s xs ≡ true → fits s (c.chosen choose x xs) ≡ true
chosen_fits s choose keeps x [] fit all = fit
chosen_fits s choose keeps x (y ∷ ys) fit all =
    chosen_fits s choose keeps (choose x y) ys (keeps x y fit (left_of (fits s y) _ all)) (right_of (fits s y) _ all)

chosen_gives : (s : SqlType) (choose : Value → Value → Value) → Keeps s choose → (values : List Value) → all_fit s values ≡ true → Gives s (c.chosen_row choose values)
chosen_gives s choose keeps [] fit = null_fits s
chosen_gives s choose keeps (x ∷ xs) fit = chosen_fits s choose keeps x xs (left_of (fits s x) _ fit) (right_of (fits s x) _ fit)

pub greatest_gives : (s : SqlType) (values : List Value) → all_fit s values ≡ true → Gives s (c.apply_greatest values)
greatest_gives s values fit =
    strict_gives s (c.chosen_row c.greater_of) values (chosen_gives s c.greater_of (λ x y here there. (by_order s (order y x) x y here there).0) values fit)

pub least_gives : (s : SqlType) (values : List Value) → all_fit s values ≡ true → Gives s (c.apply_least values)
least_gives s values fit =
    strict_gives s (c.chosen_row c.lesser_of) values (chosen_gives s c.lesser_of (λ x y here there. (by_order s (order y x) x y here there).1) values fit)
