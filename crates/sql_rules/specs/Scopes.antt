-- Names, scopes, and what a path denotes.
use Rattle.std.specs.Prelude.{ℕ, ◌+◌, Bool, true, false, not, ◌&&◌, if◌then◌else◌, List, [], ◌∷◌, slice_get, Option, None, Some, option_and_then}
use Rattle.sql_names.specs.Words.{same_name}
use Rattle.sql_rules.specs.declared.scope.Entry.{Entry}
use Rattle.sql_rules.specs.declared.scope.Member.{Member}
use Rattle.sql_rules.specs.declared.scope.What.{What}
use Rattle.sql_rules.specs.declared.scope.What.TheVariants as what
use Rattle.sql_rules.specs.declared.scope.Found.{Found}
use Rattle.sql_rules.specs.declared.scope.Found.TheVariants.{Bound, Missing, Ambiguous}

-- a name, or none, is this name
abbrev pub is_named : Option (List ℕ) → List ℕ → Bool
is_named None name = false
is_named (Some own) name = same_name own name

abbrev pub is_range : What → Bool
is_range (what.Range members) = true
is_range _ = false

-- the columns of a range variable
abbrev pub members_of : What → List Member
members_of (what.Range members) = members
members_of _ = []

-- the places of the entries that pass a test, counted from a number on
abbrev pub places_from : ℕ → (Entry → Bool) → List Entry → List ℕ
places_from at test [] = []
places_from at test (e ∷ es) = if test e then at ∷ places_from (at + 1) test es else places_from (at + 1) test es

-- the range variables of this name
abbrev pub ranges : List ℕ → List Entry → List ℕ
ranges name scope = places_from 0 (λ e. is_range e.what && is_named e.name name) scope

-- the columns, variables, arguments or aliases of this name
abbrev pub columns : List ℕ → List Entry → List ℕ
columns name scope = places_from 0 (λ e. not (is_range e.what) && is_named e.name name) scope

-- the slots of a range variable's columns of this name
abbrev pub slots_named : List ℕ → List Member → List ℕ
slots_named name [] = []
slots_named name (m ∷ ms) = if is_named m.name name then m.slot ∷ slots_named name ms else slots_named name ms

-- the range variable alone where it has no such column, the column where it has one, and two columns are ambiguous
abbrev pub column_of_range : ℕ → ℕ → List ℕ → Found
column_of_range level range [] = Bound (record { level = level; slot = range; used = 1 })
column_of_range level range (slot ∷ []) = Bound (record { level = level; slot = slot; used = 2 })
column_of_range level range (slot ∷ other ∷ more) = Ambiguous

-- after a range variable the second name is one of its columns
abbrev pub through_range : ℕ → List Entry → ℕ → List (List ℕ) → Found
through_range level scope range [] = Bound (record { level = level; slot = range; used = 1 })
through_range level scope range (second ∷ more) = column_of_range level range (slots_named second (members_in (slice_get scope range)))
  where
    members_in : Option Entry → List Member
    members_in None = []
    members_in (Some e) = members_of e.what

-- In one scope a range variable hides a column of its name. Two columns of one name, with no range variable of it,
-- make it ambiguous.
abbrev pub found_among : ℕ → List Entry → List (List ℕ) → List ℕ → List ℕ → Found
found_among level scope rest (range ∷ more) slots = through_range level scope range rest
found_among level scope rest [] [] = Missing
found_among level scope rest [] (slot ∷ []) = Bound (record { level = level; slot = slot; used = 1 })
found_among level scope rest [] (slot ∷ other ∷ more) = Ambiguous

abbrev pub found_in : ℕ → List Entry → List ℕ → List (List ℕ) → Found
found_in level scope first rest = found_among level scope rest (ranges first scope) (columns first scope)

-- an inner scope that has the first name hides the outer ones
abbrev pub or_outer : Found → Found → Found
or_outer Missing outer = outer
or_outer Ambiguous outer = Ambiguous
or_outer (Bound b) outer = Bound b

-- A path, given by its first name and the others, is looked up by its first name in the innermost scope that has it.
-- The scopes stand in order, the innermost last, and are counted from a number on.
abbrev pub found_from : ℕ → List (List Entry) → List ℕ → List (List ℕ) → Found
found_from level [] first rest = Missing
found_from level (scope ∷ scopes) first rest = or_outer (found_from (level + 1) scopes first rest) (found_in level scope first rest)

unfoldable pub found : List (List Entry) → List ℕ → List (List ℕ) → Found
found scopes first rest = found_from 0 scopes first rest

-- the entry at a level and slot, if there is one
abbrev pub entry_at : List (List Entry) → ℕ → ℕ → Option Entry
entry_at scopes level slot = option_and_then (λ scope. slice_get scope slot) (slice_get scopes level)
