-- The aggregates, a row each: what an aggregate answers for the lists of arguments that it goes over. On nothing the counts
-- are 0, and the others NULL.
use Rattle.std.specs.Prelude.{◌≡◌, ℕ, suc, ℤ, pos, ◌+ℤ◌, ◌-◌, take, Bool, true, false, ◌&&◌, ◌||◌, List, [], ◌∷◌, ◌++◌, map, length, codes, Option, None, Some, Ok}
use Rattle.std.specs.declared.cmp.Ordering.TheVariants.{Less, Equal, Greater}
use Rattle.sql_types.specs.declared.value.Value.{Value, out-Value}
use Rattle.sql_types.specs.declared.value.Value.TheVariants as value
use Rattle.sql_types.specs.declared.value.Value.TheOpen as v
use Rattle.sql_types.specs.Before.{is_null, order}
use Rattle.sql_types.specs.Logic.{truth_of}
use Rattle.sql_types.specs.Outcome.{Outcome, Meaning}
use Rattle.sql_types.specs.Takes.{content, number, count_value, as_int64, as_uint64}
use Rattle.sql_aggregates.specs.declared.call.AggName.{AggName}
use Rattle.sql_aggregates.specs.declared.call.AggName.TheVariants as name
use Rattle.sql_aggregates.specs.declared.call.AggCall.{AggCall}
use Rattle.sql_aggregates.specs.Lists.{first, GoesOver}

-- ---- counts

abbrev pub is_true : Option Bool → Bool
is_true None = false
is_true (Some b) = b

-- how many values are TRUE
abbrev pub trues : List Value → ℕ
trues [] = 0
trues (x ∷ xs) = elim (is_true (truth_of x)) [ true ↦ suc (trues xs) | false ↦ trues xs ]

-- ---- totals

-- the exact total
abbrev pub total : List Value → ℤ
total [] = pos 0
total (x ∷ xs) = number x +ℤ total xs

abbrev pub is_unsigned : v.Value-F Value → Bool
is_unsigned (v.Uint n) = true
is_unsigned _ = false

-- SUM has the type of its values; a total past the type is OUT_OF_RANGE, whatever the partial sums are
abbrev pub sum : List Value → Outcome Value
sum [] = Ok value.Null
sum (x ∷ xs) = elim (is_unsigned (out-Value x)) [ true ↦ as_uint64 (total (x ∷ xs)) | false ↦ as_int64 (total (x ∷ xs)) ]

-- ---- the least and the greatest

abbrev pub lesser : Value → Value → Value
lesser x y = elim (order y x) [ Less ↦ y | Equal ↦ x | Greater ↦ x ]

abbrev pub greater : Value → Value → Value
greater x y = elim (order y x) [ Greater ↦ y | Equal ↦ x | Less ↦ x ]

-- what is chosen pair by pair
abbrev pub best : (Value → Value → Value) → Value → List Value → Value
best choose x [] = x
best choose x (y ∷ ys) = best choose (choose x y) ys

abbrev pub best_of : (Value → Value → Value) → List Value → Value
best_of choose [] = value.Null
best_of choose (x ∷ xs) = best choose x xs

abbrev pub first_of : List Value → Value
first_of [] = value.Null
first_of (x ∷ xs) = x

-- ---- truth values

abbrev pub all_of : List Value → Bool
all_of [] = true
all_of (x ∷ xs) = is_true (truth_of x) && all_of xs

abbrev pub some_of : List Value → Bool
some_of [] = false
some_of (x ∷ xs) = is_true (truth_of x) || some_of xs

abbrev pub truth_on : (List Value → Bool) → List Value → Value
truth_on holds [] = value.Null
truth_on holds (x ∷ xs) = value.Bool (holds (x ∷ xs))

-- ---- texts and arrays

-- what stands between two texts: the second argument, or a comma
abbrev pub separator : List Value → Value
separator [] = value.Text (codes ",")
separator (x ∷ []) = value.Text (codes ",")
separator (x ∷ s ∷ more) = s

-- each with the separator before it
abbrev pub continued : List ℕ → List Value → List ℕ
continued s [] = []
continued s (x ∷ xs) = (s ++ content x) ++ continued s xs

-- the texts with the separator between; a NULL separator gives NULL
abbrev pub joined : Value → List Value → Value
joined s [] = value.Null
joined s (x ∷ xs) = elim (is_null (out-Value s)) [ true ↦ value.Null | false ↦ value.Text (content x ++ continued (content s) xs) ]

-- of a list that was added, the arguments, which stand before so many sort values
abbrev pub arguments : ℕ → List Value → List Value
arguments sorts list = take (length list - sorts) list

abbrev pub joined_lists : ℕ → List (List Value) → Value
joined_lists sorts [] = value.Null
joined_lists sorts (list ∷ lists) = joined (separator (arguments sorts list)) (map first (list ∷ lists))

abbrev pub array_of : List Value → Value
array_of [] = value.Null
array_of (x ∷ xs) = value.Array (x ∷ xs)

-- ---- the rows

-- what an aggregate answers for the lists that it goes over, each of which ends with so many sort values
abbrev pub answer : AggName → ℕ → List (List Value) → Outcome Value
-- rows, or values that aren't NULL
answer name.Count sorts lists = count_value (length lists)
-- TRUE values
answer name.CountIf sorts lists = count_value (trues (map first lists))
answer name.Sum sorts lists = sum (map first lists)
answer name.Min sorts lists = Ok (best_of lesser (map first lists))
answer name.Max sorts lists = Ok (best_of greater (map first lists))
answer name.LogicalAnd sorts lists = Ok (truth_on all_of (map first lists))
answer name.LogicalOr sorts lists = Ok (truth_on some_of (map first lists))
answer name.StringAgg sorts lists = Ok (joined_lists sorts lists)
answer name.ArrayAgg sorts lists = Ok (array_of (map first lists))
-- any value: the first of them, in whatever order
answer name.AnyValue sorts lists = Ok (first_of (map first lists))

-- Which outcomes a call permits over the lists of arguments that were added: one for each order that is open.
abbrev pub AggMeans : AggCall → List (List Value) → Meaning Value
AggMeans call lists o = (list : List (List Value)) × GoesOver call lists list × (o ≡ answer call.name (length call.order) list)
