-- Groups of rows.
use Rattle.std.specs.Prelude.{ℕ, zero, suc, List, [], ◌∷◌, ◌++◌, map}
use Rattle.sql_types.specs.declared.value.Value.{Value}
use Rattle.sql_types.specs.Parted as parted
use Rattle.key_classes.specs.Classes.{key_of}
use Rattle.eval_groups.specs.declared.groups.Group.{Group}

abbrev pub part : Group → parted.Group
part group = record { key = group.key; members = group.rows }

abbrev pub parts : List Group → List parted.Group
parts = map part

-- The groups with a row more, which goes into the group of this number; where there is none, it begins a group of this key.
abbrev pub with_member : List parted.Group → ℕ → List Value → ℕ → List parted.Group
with_member [] class key row = record { key = key; members = row ∷ [] } ∷ []
with_member (group ∷ groups) zero key row = record { key = group.key; members = group.members ++ row ∷ [] } ∷ groups
with_member (group ∷ groups) (suc class) key row = group ∷ with_member groups class key row

-- the key of each row
abbrev pub keys_of : List ℕ → List (List Value) → List (List Value)
keys_of keys = map (key_of keys)
