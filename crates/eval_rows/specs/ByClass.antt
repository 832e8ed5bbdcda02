-- What is kept for each class of rows.
use Rattle.std.specs.Prelude.{ℕ, List, Option, None, Some, slice_index_or}
use Rattle.sql_types.specs.Joined.{Row}
use Rattle.key_classes.specs.Classes.{number_of}

-- the value of this number, and this one where there is no number
abbrev pub value_at : {A : Type 0} → A → List A → Option ℕ → A
value_at none values None = none
value_at none values (Some n) = slice_index_or values n none

-- What is kept for a key, by the distinct keys and what is kept for each of them. For a key that isn't among them nothing is.
abbrev pub by_class : {A : Type 0} → A → List Row → List A → Row → A
by_class none keys values key = value_at none values (number_of keys key)
