-- What the aggregates of groups answer.
use Rattle.std.specs.Prelude.{◌≡◌, ℕ, ◌<◌, ◌-◌, ◌++◌, true, List, [], ◌∷◌, map, length, take, slice_index_or, None, Ok, Err}
use Rattle.std.specs.List.{All, Contains}
use Rattle.sql_types.specs.declared.sql_type.Named.{Named}
use Rattle.sql_types.specs.declared.rows.Rows.{Rows}
use Rattle.sql_types.specs.declared.sql_type.SqlType.{SqlType}
use Rattle.sql_types.specs.declared.sql_type.SqlType.TheVariants as ty
use Rattle.sql_types.specs.declared.value.Value.{Value}
use Rattle.sql_types.specs.declared.value.Value.TheVariants.{Null}
use Rattle.sql_types.specs.Outcome.{Meaning, Gather}
use Rattle.sql_aggregates.specs.declared.call.AggCall.{AggCall}
use Rattle.sql_aggregates.specs.Aggregates.{AggMeans}
use Rattle.sql_aggregates.specs.AnswerTypes.{answer_type}
use Rattle.sql_aggregates.specs.Calls.{lawful, TakesTypes, Addable}
use Rattle.eval_groups.specs.declared.groups.Group.{Group}
use Rattle.key_classes.specs.Classes.{key_of}

-- ---- what a call goes over: its columns are those of its arguments, and then those of its sort items

abbrev pub column_types : Rows → List SqlType
column_types table = map (λ c. c.ty) table.columns

-- the types of the columns at these places
abbrev pub types_at : List SqlType → List ℕ → List SqlType
types_at types = map (λ place. slice_index_or types place ty.Int64)

-- the values that a call takes from each row of a group
abbrev pub lists_of : List (List Value) → List ℕ → Group → List (List Value)
lists_of rows places group = map (λ number. key_of places (slice_index_or rows number [])) group.rows

-- the lists have one separator, which is their second value
abbrev pub OneSeparator : List (List Value) → Type 0
OneSeparator lists = (one other : List Value) → Contains lists one → Contains lists other → slice_index_or one 1 Null ≡ slice_index_or other 1 Null

-- A call may go over these columns of the groups: they exist, the call has no modifier that its aggregate doesn't take, and what
-- it takes from each row of a group may be added to it, with the same separator for all rows of the group.
pub record Aggregable (table : Rows) (groups : List Group) (call : AggCall) (places : List ℕ) : Type 0 where
  pub modifiers : lawful call ≡ true
  pub within : All (λ place. place < length table.columns) places
  pub argument_types : List SqlType
  pub sort_types : List SqlType
  pub types : types_at (column_types table) places ≡ argument_types ++ sort_types
  pub sorts : length sort_types ≡ length call.order
  pub taken : TakesTypes call.name argument_types
  pub each : All (λ group. All (Addable call argument_types sort_types) (lists_of table.rows places group)) groups
  pub separators : length argument_types ≡ 2 → All (λ group. OneSeparator (lists_of table.rows places group)) groups

-- each call with its columns
abbrev pub AllAggregable : Rows → List Group → List AggCall → List (List ℕ) → Type 0
AllAggregable table groups [] [] = Unit {0}
AllAggregable table groups [] (places ∷ arguments) = ⊥
AllAggregable table groups (call ∷ calls) [] = ⊥
AllAggregable table groups (call ∷ calls) (places ∷ arguments) = Aggregable table groups call places × AllAggregable table groups calls arguments

-- the rows of the groups exist
abbrev pub AllWithin : Rows → List Group → Type 0
AllWithin table = All (λ group. All (λ number. number < length table.rows) group.rows)

-- ---- what the calls answer

-- what each call permits over a group
abbrev pub calls_mean : List (List Value) → List AggCall → List (List ℕ) → Group → List (Meaning Value)
calls_mean rows (call ∷ calls) (places ∷ arguments) group = AggMeans call (lists_of rows places group) ∷ calls_mean rows calls arguments group
calls_mean rows _ _ group = []

-- all calls over all groups gather: a row for each group, in their order, with a value for each call; or the fault of one of them
abbrev pub Aggregated : List (List Value) → List AggCall → List (List ℕ) → List Group → Meaning (List (List Value))
Aggregated rows calls arguments groups = Gather (map (λ group. Gather (calls_mean rows calls arguments group)) groups)

-- the column of a call has no name
abbrev pub answer_columns : List SqlType → List AggCall → List (List ℕ) → List (Named SqlType)
answer_columns types (call ∷ calls) (places ∷ arguments) =
    record { name = None; ty = answer_type call.name (take (length places - length call.order) (types_at types places)) } ∷ answer_columns types calls arguments
answer_columns types _ _ = []

abbrev pub Aggregates : Rows → List AggCall → List (List ℕ) → List Group → Meaning Rows
Aggregates table calls arguments groups (Ok made) = (made.columns ≡ answer_columns (column_types table) calls arguments) × Aggregated table.rows calls arguments groups (Ok made.rows)
Aggregates table calls arguments groups (Err fault) = Aggregated table.rows calls arguments groups (Err fault)
