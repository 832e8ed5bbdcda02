-- The pairs of a join by equal keys.
use Rattle.std.specs.Prelude.{◌≡◌, ℕ, suc, Bool, true, false, List, [], ◌∷◌, map, slice_index_or, Option, None, Some}
use Rattle.sql_types.specs.declared.value.Value.{Value}
use Rattle.sql_types.specs.declared.value.Value.TheVariants.{Null}
use Rattle.sql_types.specs.Joined.{Row, Pairs}
use Rattle.sql_types.specs.Same.{equal}
use Rattle.eval_rows.specs.ByClass.{by_class}

-- the value in this column; one that isn't there counts as NULL
abbrev pub key_at : ℕ → Row → Value
key_at column row = slice_index_or row column Null

-- TRUE, and neither FALSE nor NULL
abbrev pub holds : Option Bool → Bool
holds None = false
holds (Some truth) = truth

-- whether the left key and that of each right row are equal; a NULL in either is no match
abbrev pub equal_to : Value → ℕ → List Row → List Bool
equal_to key column = map (λ right. holds (equal key (key_at column right)))

-- the pairs whose keys are equal
abbrev pub equal_pairs : ℕ → ℕ → List Row → List Row → Pairs
equal_pairs left_key right_key lefts rights = map (λ left. equal_to (key_at left_key left) right_key rights) lefts

-- ---- rows by their numbers

-- the numbers of those that are kept, the first having this number
abbrev pub kept_from : ℕ → List Bool → List ℕ
kept_from n [] = []
kept_from n (true ∷ kept) = n ∷ kept_from (suc n) kept
kept_from n (false ∷ kept) = kept_from (suc n) kept

-- What is kept for each value of a column, by the values that are known and what is kept for each of them: the numbers of
-- the rows whose key is equal to the value.
abbrev pub Indexes : ℕ → List Row → List Row → List (List ℕ) → Type 0
Indexes column rights values numbers = (key : Value) → by_class [] values numbers (key ∷ []) ≡ kept_from 0 (equal_to key column rights)
