-- Which calls there are, and what may be added to one.
use Rattle.std.specs.Prelude.{◌≡◌, ℕ, suc, Bool, true, false, not, ◌&&◌, ◌||◌, is_none, List, [], ◌∷◌, ◌++◌, length, drop, slice_index_or}
use Rattle.std.specs.List.{Contains}
use Rattle.sql_types.specs.declared.sql_type.SqlType.{SqlType, out-SqlType}
use Rattle.sql_types.specs.declared.sql_type.SqlType.TheVariants as ty
use Rattle.sql_types.specs.declared.sql_type.SqlType.TheOpen as t
use Rattle.sql_types.specs.declared.value.Value.{Value}
use Rattle.sql_types.specs.declared.value.Value.TheVariants.{Null}
use Rattle.sql_types.specs.declared.kinds.SortItem.{SortItem}
use Rattle.sql_types.specs.Comparable.{groupable, orderable}
use Rattle.sql_types.specs.Takes.{fits_types}
use Rattle.sql_aggregates.specs.declared.call.AggName.{AggName}
use Rattle.sql_aggregates.specs.declared.call.AggName.TheVariants as name
use Rattle.sql_aggregates.specs.declared.call.AggCall.{AggCall}
use Rattle.sql_aggregates.specs.Lists.{first}

-- STRING_AGG and ARRAY_AGG take ORDER BY and LIMIT
abbrev pub takes_order : AggName → Bool
takes_order name.StringAgg = true
takes_order name.ArrayAgg = true
takes_order _ = false

-- ARRAY_AGG takes IGNORE NULLS
abbrev pub takes_ignore : AggName → Bool
takes_ignore name.ArrayAgg = true
takes_ignore _ = false

abbrev pub is_empty : {A : Type 0} → List A → Bool
is_empty [] = true
is_empty (x ∷ xs) = false

-- the call has no modifier, sort item or limit that its aggregate doesn't take; each takes DISTINCT
abbrev pub lawful : AggCall → Bool
lawful call = (takes_order call.name || (is_empty call.order && is_none call.limit)) && (takes_ignore call.name || not call.ignore_nulls)

-- ---- what may be added

abbrev pub is_array : t.SqlType-F SqlType → Bool
is_array (t.Array element) = true
is_array _ = false

-- the types of the arguments that an aggregate takes
pub data TakesTypes : AggName → List SqlType → Type 0 where
  -- COUNT(*), and COUNT of any type
  takes_rows : TakesTypes name.Count []
  takes_any : {any : SqlType} → TakesTypes name.Count (any ∷ [])
  takes_truths : TakesTypes name.CountIf (ty.Bool ∷ [])
  takes_signed : TakesTypes name.Sum (ty.Int64 ∷ [])
  takes_unsigned : TakesTypes name.Sum (ty.Uint64 ∷ [])
  takes_least : {any : SqlType} → orderable any ≡ true → TakesTypes name.Min (any ∷ [])
  takes_greatest : {any : SqlType} → orderable any ≡ true → TakesTypes name.Max (any ∷ [])
  takes_and : TakesTypes name.LogicalAnd (ty.Bool ∷ [])
  takes_or : TakesTypes name.LogicalOr (ty.Bool ∷ [])
  takes_texts : TakesTypes name.StringAgg (ty.Text ∷ [])
  takes_separator : TakesTypes name.StringAgg (ty.Text ∷ ty.Text ∷ [])
  -- ARRAY_AGG takes no array
  takes_elements : {any : SqlType} → is_array (out-SqlType any) ≡ false → TakesTypes name.ArrayAgg (any ∷ [])
  takes_one : {any : SqlType} → TakesTypes name.AnyValue (any ∷ [])

abbrev pub all_orderable : List SqlType → Bool
all_orderable [] = true
all_orderable (s ∷ types) = orderable s && all_orderable types

-- the places of the sort items are, in order, those behind the arguments
abbrev pub places_from : ℕ → List SortItem → Type 0
places_from place [] = Unit {0}
places_from place (item ∷ items) = (item.place ≡ place) × places_from (suc place) items

abbrev pub first_groupable : List SqlType → Bool
first_groupable [] = false
first_groupable (s ∷ types) = groupable s

-- With DISTINCT a list has an argument, and each sort value is the same as the first one.
abbrev pub each_same : Value → List Value → Type 0
each_same x [] = Unit {0}
each_same x (y ∷ ys) = (y ≡ x) × each_same x ys

-- A list may be added to a call over arguments of these types and sort values of those: a value for each argument and then
-- for each sort item.
pub record Addable (call : AggCall) (argument_types sort_types : List SqlType) (list : List Value) : Type 0 where
  pub taken : TakesTypes call.name argument_types
  pub sorts : length sort_types ≡ length call.order
  pub orderable_sorts : all_orderable sort_types ≡ true
  pub places : places_from (length argument_types) call.order
  pub values : fits_types (argument_types ++ sort_types) list ≡ true
  pub distinct : call.distinct ≡ true → (first_groupable argument_types ≡ true) × each_same (first list) (drop (length argument_types) list)

-- All the lists are of the same types, and have the same second argument where a STRING_AGG has one.
pub record AllAddable (call : AggCall) (lists : List (List Value)) : Type 0 where
  pub argument_types : List SqlType
  pub sort_types : List SqlType
  pub each : (list : List Value) → Contains lists list → Addable call argument_types sort_types list
  pub separators : length argument_types ≡ 2 → (one other : List Value) → Contains lists one → Contains lists other
      → slice_index_or one 1 Null ≡ slice_index_or other 1 Null
