-- What a part of a tree sees: values by column, GROUPING by key column, and outcomes by the numbers of the queries of WITH lists.
use Rattle.std.specs.Prelude.{ℕ, ◌==◌, if◌then◌else◌, List, [], ◌∷◌, map, Ok}
use Rattle.sql_types.specs.declared.value.Value.{Value}
use Rattle.sql_types.specs.declared.value.Value.TheVariants as value
use Rattle.sql_types.specs.Joined.{Row}
use Rattle.sql_types.specs.Outcome.{Outcome}

-- the newest stand first
pub record Slots : Type 0 where
  pub values : List (ℕ × Value)
  pub groupings : List (ℕ × Value)
  pub ctes : List (ℕ × Outcome (List Row))

-- a query sees nothing outside of itself
abbrev pub empty_slots : Slots
empty_slots = record { values = []; groupings = []; ctes = [] }

-- rows, with the numbers of their columns
pub record Table : Type 0 where
  pub ids : List ℕ
  pub rows : List Row

-- the first with a number; one that isn't there has a value all the same
abbrev pub found_or : {A : Type 0} → A → ℕ → List (ℕ × A) → A
found_or other n [] = other
found_or other n (entry ∷ entries) = if entry.0 == n then entry.1 else found_or other n entries

-- the value of a column
abbrev pub value_at : List (ℕ × Value) → ℕ → Value
value_at values id = found_or value.Null id values

-- the values of a row, by its columns, before others
abbrev pub bound : List ℕ → Row → List (ℕ × Value) → List (ℕ × Value)
bound [] row values = values
bound (id ∷ ids) [] values = values
bound (id ∷ ids) (x ∷ row) values = (id, x) ∷ bound ids row values

-- inside of a row
abbrev pub within : Slots → List ℕ → Row → Slots
within slots ids row = record slots { values = bound ids row slots.values }

-- the values of some columns in a row
abbrev pub picked : List ℕ → List (ℕ × Value) → Row
picked ids values = map (value_at values) ids

-- one more query of a WITH list, with its one outcome
abbrev pub with_cte : Slots → ℕ → Outcome (List Row) → Slots
with_cte slots n outcome = record slots { ctes = (n, outcome) ∷ slots.ctes }

-- the rows of a query of a WITH list
abbrev pub cte_rows : Slots → ℕ → Outcome (List Row)
cte_rows slots n = found_or (Ok []) n slots.ctes
