-- The right rows of a join that meet no left row, where the left rows are gone through one by one.
use Rattle.std.specs.Prelude.{ℕ, Bool, true, false, ◌||◌, List, [], ◌∷◌, ◌++◌, replicate, set}
use Rattle.sql_types.specs.declared.kinds.JoinKind.{JoinKind}
use Rattle.sql_types.specs.declared.kinds.JoinKind.TheVariants as join
use Rattle.sql_types.specs.declared.value.Value.TheVariants.{Null}
use Rattle.sql_types.specs.Joined.{Row}

-- which right rows have met a left row, by which had and with which one more left row is kept
abbrev pub either_each : List Bool → List Bool → List Bool
either_each [] kept = []
either_each (had ∷ more) [] = had ∷ more
either_each (had ∷ more) (keep ∷ kept) = (had || keep) ∷ either_each more kept

-- which have met one, with those of these numbers
abbrev pub noted_at : List Bool → List ℕ → List Bool
noted_at had [] = had
noted_at had (number ∷ numbers) = noted_at (set had number true) numbers

-- the rows that have met none, with NULL for each column of the left
abbrev pub unmet : ℕ → List Row → List Bool → List Row
unmet left_width [] had = []
unmet left_width (right ∷ rights) [] = []
unmet left_width (right ∷ rights) (true ∷ had) = unmet left_width rights had
unmet left_width (right ∷ rights) (false ∷ had) = (replicate left_width Null ++ right) ∷ unmet left_width rights had

-- RIGHT and FULL keep them
abbrev pub from_unmet : JoinKind → ℕ → List Row → List Bool → List Row
from_unmet join.Right left_width rights had = unmet left_width rights had
from_unmet join.Full left_width rights had = unmet left_width rights had
from_unmet kind left_width rights had = []
