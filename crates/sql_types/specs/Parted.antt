-- How rows are parted into groups by their keys.
use Rattle.std.specs.Prelude.{◌≡◌, ℕ, zero, suc, ◌<◌, List, [], ◌∷◌, map, take, slice_get, Some}
use Rattle.std.specs.List.{flat_map}
use Rattle.sql_types.specs.declared.value.Value.{Value}
use Rattle.sql_types.specs.Arranged.{Permutes}

-- a group: the values of its keys, and the numbers of its rows, which are counted from 0
pub record Group : Type 0 where
  pub key : List Value
  pub members : List ℕ

-- it holds of each
abbrev pub Each : {A : Type 0} → (A → Type 0) → List A → Type 0
Each P [] = Unit {0}
Each P (x ∷ xs) = P x × Each P xs

-- the numbers of the rows that have these keys, the first row having this number
abbrev pub numbers_from : ℕ → List (List Value) → List ℕ
numbers_from n [] = []
numbers_from n (key ∷ keys) = n ∷ numbers_from (suc n) keys

-- no two are the same; NULL is the same as NULL
abbrev pub Apart : List (List Value) → Type 0
Apart [] = Unit {0}
Apart (key ∷ keys) = Each (λ other. key ≡ other → ⊥) keys × Apart keys

-- each number is below the next
abbrev pub Rising : List ℕ → Type 0
Rising [] = Unit {0}
Rising (i ∷ []) = Unit {0}
Rising (i ∷ j ∷ more) = (i < j) × Rising (j ∷ more)

-- rows, given by their keys, are parted into these groups
pub record Parted (keys : List (List Value)) (groups : List Group) : Type 0 where
  -- each row is in just one group
  pub whole : Permutes (numbers_from 0 keys) (flat_map (λ g. g.members) groups)
  -- the rows of a group have its key
  pub alike : Each (λ g. Each (λ i. slice_get keys i ≡ Some g.key) g.members) groups
  -- the keys of two groups differ
  pub apart : Apart (map (λ g. g.key) groups)
  -- no group is empty
  pub filled : Each (λ g. g.members ≡ [] → ⊥) groups
  -- the rows of a group stand in their own order, and the groups in that of their first rows
  pub in_order : Each (λ g. Rising g.members) groups
  pub by_first : Rising (flat_map (λ g. take 1 g.members) groups)

-- Without GROUP BY, and for the grouping set (), there is one group, also over no rows; else the keys part the rows.
-- The first number says how many keys there are.
abbrev pub Grouped : ℕ → List (List Value) → List Group → Type 0
Grouped zero keys groups = groups ≡ record { key = []; members = numbers_from 0 keys } ∷ []
Grouped (suc n) keys groups = Parted keys groups
