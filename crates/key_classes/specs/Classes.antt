-- The distinct keys of rows.
use Rattle.std.specs.Prelude.{ℕ, cond, List, [], ◌∷◌, ◌++◌, map, position, slice_index_or, Option}
use Rattle.std.specs.List.{list_any}
use Rattle.sql_types.specs.declared.value.Value.{Value}
use Rattle.sql_types.specs.declared.value.Value.TheVariants.{Null}
use Rattle.sql_types.specs.SameValue.{same_values}

-- the values of a row in these columns; one that isn't there counts as NULL
abbrev pub key_of : List ℕ → List Value → List Value
key_of columns row = map (λ column. slice_index_or row column Null) columns

-- The keys with one more, which goes last unless the same key is there. Two keys are the same where their values are, and
-- NULL is the same as NULL.
abbrev pub with_key : List (List Value) → List Value → List (List Value)
with_key keys key = cond (list_any (same_values key) keys) keys (keys ++ key ∷ [])

-- the number of a key, counted from 0, if it is there
abbrev pub number_of : List (List Value) → List Value → Option ℕ
number_of keys key = position (same_values key) keys
