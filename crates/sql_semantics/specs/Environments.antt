-- Environments: a value for each name in sight.
use Rattle.std.specs.Prelude.{◌≡◌, ℕ, true, List, [], ◌∷◌, ◌++◌, map, slice_get, Some, Ok}
use Rattle.sql_types.specs.declared.sql_type.Named.{Named}
use Rattle.sql_types.specs.declared.sql_type.SqlType.{SqlType}
use Rattle.sql_types.specs.declared.value.Value.{Value}
use Rattle.sql_types.specs.Outcome.{Outcome, Meaning}
use Rattle.sql_rules.specs.declared.scope.Entry.{Entry}
use Rattle.sql_rules.specs.declared.scope.Found.{Found}
use Rattle.sql_rules.specs.declared.scope.Found.TheVariants.{Bound, Missing, Ambiguous}
use Rattle.sql_semantics.specs.Sights.{Sight}

abbrev pub Row : Type 0
Row = List Value

-- a scope with a value per entry; that of a range variable is never read
pub record Frame : Type 0 where
  pub scope : List Entry
  pub values : List Value

-- a CTE in sight, and the one outcome of its query, which each reference reads
pub record CteOutcome : Type 0 where
  pub name : List ℕ
  pub columns : List (Named SqlType)
  pub outcome : Outcome (List Row)

-- the frames and the CTEs in sight, the innermost last
pub record Env : Type 0 where
  pub frames : List Frame
  pub ctes : List CteOutcome

abbrev pub empty_env : Env
empty_env = record { frames = []; ctes = [] }

-- one more frame inside
abbrev pub within : Env → Frame → Env
within env frame = record env { frames = env.frames ++ frame ∷ [] }

-- one more CTE
abbrev pub with_outcome : Env → CteOutcome → Env
with_outcome env cte = record env { ctes = env.ctes ++ cte ∷ [] }

-- what is in sight in an environment
abbrev pub sight_of : Env → Sight
sight_of env = record {
  levels = map (λ f. f.scope) env.frames;
  ctes = map (λ c. record { name = c.name; columns = c.columns }) env.ctes;
  as_struct = true;
}

-- the value of the entry that a path has found
abbrev pub Reads : Env → Found → Meaning Value
Reads env Missing o = ⊥
Reads env Ambiguous o = ⊥
Reads env (Bound b) o = (frame : Frame) × (x : Value) × (slice_get env.frames b.level ≡ Some frame) × (slice_get frame.values b.slot ≡ Some x) × (o ≡ Ok x)
