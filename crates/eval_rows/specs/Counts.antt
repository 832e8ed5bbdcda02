-- Set operations by counting: how often a row stands in a list.
use Rattle.std.specs.Prelude.{◌≡◌, ℕ, ◌+◌, ◌-◌, min, Bool, true, false, cond, List, [], ◌∷◌, map}
use Rattle.std.specs.List.{list_all}
use denote.Ref.{Bor}
use Rattle.sql_types.specs.declared.kinds.SetKind.{SetKind}
use Rattle.sql_types.specs.declared.rows.Rows.{Rows}
use Rattle.sql_types.specs.Combined.{combined_count}
use Rattle.sql_types.specs.Joined.{Row}
use Rattle.sql_types.specs.SameValue.{same_values}
use Rattle.key_classes.specs.Classes.{key_of}

-- the rows that are borrowed
abbrev pub shown : List (Bor Row) → List Row
shown = map (λ b. b.now)

abbrev pub rows_of : Rows → List Row
rows_of operand = operand.rows

-- how often the row stands in the list
abbrev pub count : Row → List Row → ℕ
count row [] = 0
count row (other ∷ rows) = cond (same_values row other) 1 0 + count row rows

-- each row stands in the result as often as the set operation says
abbrev pub CombinedBy : SetKind → List Row → List (List Row) → List Row → Type 0
CombinedBy kind first others result = (row : Row) → count row result ≡ combined_count kind (count row first) (map (count row) others)

-- ---- rows that are known by their values in some columns

-- these columns are all that the row has
abbrev pub is_whole : List ℕ → Row → Bool
is_whole columns row = same_values (key_of columns row) row

abbrev pub AllWhole : List ℕ → List Row → Type 0
AllWhole columns rows = list_all (is_whole columns) rows ≡ true

-- ---- rows and their partners: each row of one list takes one row of the other that is the same, where there is one left

-- how often a row is among those that have a partner, or among those that have none, by how often it stands in either list
abbrev pub count_partnered : Bool → ℕ → ℕ → ℕ
count_partnered true n m = min n m
count_partnered false n m = n - m
