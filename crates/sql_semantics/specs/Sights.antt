-- What is in sight at a place of the text.
use Rattle.std.specs.Prelude.{ℕ, Bool, true, false, List, [], ◌∷◌, ◌++◌, Option, None, Some}
use Rattle.sql_types.specs.declared.sql_type.Named.{Named}
use Rattle.sql_types.specs.declared.sql_type.SqlType.{SqlType}
use Rattle.sql_names.specs.Words.{same_name}
use Rattle.sql_rules.specs.declared.scope.Entry.{Entry}

-- a CTE and its columns
pub record CteColumns : Type 0 where
  pub name : List ℕ
  pub columns : List (Named SqlType)

-- The scopes, the innermost last; the CTEs, the innermost last; and whether SELECT AS STRUCT may stand here.
pub record Sight : Type 0 where
  pub levels : List (List Entry)
  pub ctes : List CteColumns
  pub as_struct : Bool

-- a text is typed with nothing in sight
abbrev pub nothing_in_sight : Sight
nothing_in_sight = record { levels = []; ctes = []; as_struct = true }

-- one more scope inside
abbrev pub inside : Sight → List Entry → Sight
inside sight scope = record sight { levels = sight.levels ++ scope ∷ [] }

-- one more CTE
abbrev pub with_cte : Sight → CteColumns → Sight
with_cte sight cte = record sight { ctes = sight.ctes ++ cte ∷ [] }

-- where a SELECT AS STRUCT may stand, and where it may not
abbrev pub for_struct : Bool → Sight → Sight
for_struct allowed sight = record sight { as_struct = allowed }

-- the last CTE of a name
abbrev pub last_cte : {A : Type 0} → (A → List ℕ) → List ℕ → List A → Option A
last_cte called name [] = None
last_cte called name (cte ∷ ctes) = elim (last_cte called name ctes) [
  | Some found ↦ Some found
  | None ↦ elim (same_name (called cte) name) [ true ↦ Some cte | false ↦ None ]
]
