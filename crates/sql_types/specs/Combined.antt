-- The set operations.
use Rattle.std.specs.Prelude.{◌≡◌, ℕ, zero, suc, ◌+◌, ◌-◌, min, List, [], ◌∷◌}
use Rattle.sql_types.specs.declared.value.Value.{Value}
use Rattle.sql_types.specs.declared.kinds.SetKind.{SetKind}
use Rattle.sql_types.specs.declared.kinds.SetKind.TheVariants as set

-- how often the row stands in a list: the rows that are the same, NULL being the same as NULL
pub data Counted (row : List Value) : List (List Value) → ℕ → Type 0 where
  counted_none : Counted row [] 0
  counted_same : {other : List Value} {rows : List (List Value)} {n : ℕ} → row ≡ other → Counted row rows n → Counted row (other ∷ rows) (suc n)
  counted_other : {other : List Value} {rows : List (List Value)} {n : ℕ} → (row ≡ other → ⊥) → Counted row rows n → Counted row (other ∷ rows) n

-- how often in each operand
abbrev pub CountedEach : List Value → List (List (List Value)) → List ℕ → Type 0
CountedEach row [] [] = Unit {0}
CountedEach row [] (n ∷ counts) = ⊥
CountedEach row (rows ∷ operands) [] = ⊥
CountedEach row (rows ∷ operands) (n ∷ counts) = Counted row rows n × CountedEach row operands counts

abbrev pub total : List ℕ → ℕ
total [] = 0
total (n ∷ counts) = n + total counts

abbrev pub least : ℕ → List ℕ → ℕ
least n [] = n
least n (m ∷ counts) = least (min n m) counts

abbrev pub at_most_one : ℕ → ℕ
at_most_one zero = 0
at_most_one (suc n) = 1

-- how often a row stands in the result, by how often it stands in the first operand and in each of the others
abbrev pub combined_count : SetKind → ℕ → List ℕ → ℕ
combined_count set.UnionAll n counts = n + total counts
combined_count set.UnionDistinct n counts = at_most_one (n + total counts)
combined_count set.IntersectAll n counts = least n counts
combined_count set.IntersectDistinct n counts = at_most_one (least n counts)
-- the difference down to 0
combined_count set.ExceptAll n counts = n - total counts
-- once where the first operand has it and no other has it
combined_count set.ExceptDistinct n counts = at_most_one n - total counts

-- the result of a set operation over a first operand and others, in any order
abbrev pub Combined : SetKind → List (List Value) → List (List (List Value)) → List (List Value) → Type 0
Combined kind first others result = (row : List Value) (n : ℕ) (counts : List ℕ) → Counted row first n → CountedEach row others counts → Counted row result (combined_count kind n counts)
