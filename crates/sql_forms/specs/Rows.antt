-- Rows: those that a test keeps, those of a join, and what a subquery makes of them.
use Rattle.std.specs.Prelude.{◌≡◌, ℕ, Bool, true, false, if◌then◌else◌, List, [], ◌∷◌, ◌++◌, map, Ok, Err}
use Rattle.sql_types.specs.declared.fault.FaultKind.TheVariants as fault
use Rattle.sql_types.specs.declared.kinds.JoinKind.{JoinKind}
use Rattle.sql_types.specs.declared.value.Value.{Value}
use Rattle.sql_types.specs.declared.value.Value.TheVariants as value
use Rattle.sql_types.specs.Arranged.{Arranged}
use Rattle.sql_types.specs.Joined.{Row, Pairs, met, padded_right}
use Rattle.sql_types.specs.Outcome.{Outcome, Meaning, gives, ◌>>=◌, Gather, Both}
use Rattle.sql_forms.specs.Conditions.{is_true}

-- any order of the rows
abbrev pub in_any_order : List Row → Meaning (List Row)
in_any_order rows o = (list : List Row) × Arranged [] rows list × (o ≡ Ok list)

-- the elements whose test is TRUE, one test for each
abbrev pub kept : {A : Type 0} → List A → List Value → List A
kept [] tests = []
kept (x ∷ xs) [] = []
kept (x ∷ xs) (test ∷ tests) = if is_true test then x ∷ kept xs tests else kept xs tests

abbrev pub is_empty : {A : Type 0} → List A → Bool
is_empty [] = true
is_empty (x ∷ xs) = false

-- a scalar subquery: NULL for no row, the value for one, and a fault for more
abbrev pub single : List Value → Outcome Value
single [] = Ok value.Null
single (x ∷ []) = Ok x
single (x ∷ y ∷ more) = Err fault.ScalarRows

-- ---- joins

-- The tests of all pairs gather: for each left row those with each of its right rows.
abbrev pub pair_tests : (Row → Row → Meaning Value) → List Row → List (List Row) → Meaning (List (List Value))
pair_tests test [] rights = gives []
pair_tests test (left ∷ lefts) [] = gives []
pair_tests test (left ∷ lefts) (right ∷ rights) =
    Both (Gather (map (test left) right)) (pair_tests test lefts rights) >>= (λ both. gives (both.0 ∷ both.1))

-- the pairs for which the test is TRUE
abbrev pub true_pairs : List (List Value) → Pairs
true_pairs tests = map (λ row. map is_true row) tests

-- every pair
abbrev pub all_pairs : List (List Row) → Pairs
all_pairs rights = map (λ rows. map (λ row. true) rows) rights

-- The rows of a join whose right item has rows of its own for each left row.
abbrev pub joined_each : JoinKind → ℕ → List Row → List (List Row) → Pairs → List Row
joined_each k right_width [] rights kept = []
joined_each k right_width (left ∷ lefts) [] kept = []
joined_each k right_width (left ∷ lefts) (right ∷ rights) [] = []
joined_each k right_width (left ∷ lefts) (right ∷ rights) (row ∷ kept) =
    padded_right k right_width left (met left right row) ++ joined_each k right_width lefts rights kept
