-- What an aggregate goes over: of the lists of arguments that were added, those that are left after NULLs are skipped, and
-- after DISTINCT, ORDER BY and LIMIT, in this order.
use Rattle.std.specs.Prelude.{◌≡◌, ℕ, Bool, true, false, List, [], ◌∷◌, take, Option, None, Some}
use Rattle.std.specs.List.{Contains}
use Rattle.sql_types.specs.declared.value.Value.{Value, out-Value}
use Rattle.sql_types.specs.declared.value.Value.TheVariants as value
use Rattle.sql_types.specs.Before.{is_null}
use Rattle.sql_types.specs.Arranged.{Arranged}
use Rattle.sql_aggregates.specs.declared.call.AggName.{AggName}
use Rattle.sql_aggregates.specs.declared.call.AggName.TheVariants as name
use Rattle.sql_aggregates.specs.declared.call.AggCall.{AggCall}

-- the first argument; COUNT(*) has none, and its list is empty
abbrev pub first : List Value → Value
first [] = value.Null
first (x ∷ xs) = x

-- ---- NULLs

-- which aggregates skip a list whose first argument is NULL
abbrev pub skips : AggName → Bool → Bool
skips name.ArrayAgg ignore_nulls = ignore_nulls
skips name.AnyValue ignore_nulls = false
skips _ ignore_nulls = true

-- COUNT(*) counts rows: a list without arguments is never skipped
abbrev pub null_argument : List Value → Bool
null_argument [] = false
null_argument (x ∷ xs) = is_null (out-Value x)

abbrev pub without_nulls : List (List Value) → List (List Value)
without_nulls [] = []
without_nulls (list ∷ lists) = elim (null_argument list) [ true ↦ without_nulls lists | false ↦ list ∷ without_nulls lists ]

abbrev pub kept : Bool → List (List Value) → List (List Value)
kept true lists = without_nulls lists
kept false lists = lists

-- ---- DISTINCT

-- no list has the same first argument as this one
abbrev pub NoneLike : List Value → List (List Value) → Type 0
NoneLike list [] = Unit {0}
NoneLike list (other ∷ others) = (first list ≡ first other → ⊥) × NoneLike list others

abbrev pub AllApart : List (List Value) → Type 0
AllApart [] = Unit {0}
AllApart (list ∷ lists) = NoneLike list lists × AllApart lists

-- one of each group of lists whose first argument is the same
pub record OneOfEach (lists some : List (List Value)) : Type 0 where
  -- each is one of the lists
  pub among : (list : List Value) → Contains some list → Contains lists list
  -- no two are of one group
  pub apart : AllApart some
  -- and no group is left out
  pub complete : (list : List Value) → Contains lists list → (other : List Value) × Contains some other × (first list ≡ first other)

abbrev pub Chosen : Bool → List (List Value) → List (List Value) → Type 0
Chosen true lists some = OneOfEach lists some
Chosen false lists some = some ≡ lists

-- ---- LIMIT

abbrev pub limited : Option ℕ → List (List Value) → List (List Value)
limited None lists = lists
limited (Some count) lists = take count lists

-- ---- all together

-- Of these lists an aggregate goes over those, in this order. Without ORDER BY the order is open.
pub record GoesOver (call : AggCall) (lists list : List (List Value)) : Type 0 where
  pub some : List (List Value)
  pub chosen : Chosen call.distinct (kept (skips call.name call.ignore_nulls) lists) some
  pub ordered : List (List Value)
  pub arranged : Arranged call.order some ordered
  pub is : list ≡ limited call.limit ordered
