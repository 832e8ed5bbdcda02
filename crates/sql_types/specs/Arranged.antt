-- The orders of a list of rows.
use Rattle.std.specs.Prelude.{ℕ, ◌<◌, List, [], ◌∷◌, length, slice_index_or}
use Rattle.sql_types.specs.declared.value.Value.{Value}
use Rattle.sql_types.specs.declared.kinds.SortItem.{SortItem}
use Rattle.sql_types.specs.Before.{BeforeBy}

-- the same elements, each as often, in any order
pub data Permutes {A : Type 0} : List A → List A → Type 0 where
  permutes_none : Permutes [] []
  permutes_skip : {x : A} {xs ys : List A} → Permutes xs ys → Permutes (x ∷ xs) (x ∷ ys)
  permutes_swap : {x y : A} {xs : List A} → Permutes (x ∷ y ∷ xs) (y ∷ x ∷ xs)
  permutes_then : {xs ys zs : List A} → Permutes xs ys → Permutes ys zs → Permutes xs zs

-- A permutation of the rows in which no later row comes before an earlier one. Without items every permutation is one.
pub record Arranged (items : List SortItem) (rows list : List (List Value)) : Type 0 where
  pub permutes : Permutes rows list
  pub ordered : (i j : ℕ) → i < j → j < length list → BeforeBy items (slice_index_or list j []) (slice_index_or list i []) → ⊥
