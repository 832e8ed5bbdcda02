-- The rows of a join.
use Rattle.std.specs.Prelude.{◌≡◌, ℕ, Bool, true, false, ◌||◌, if◌then◌else◌, List, [], ◌∷◌, ◌++◌, replicate}
use Rattle.sql_types.specs.declared.value.Value.{Value}
use Rattle.sql_types.specs.declared.value.Value.TheVariants.{Null}
use Rattle.sql_types.specs.declared.kinds.JoinKind.{JoinKind}
use Rattle.sql_types.specs.declared.kinds.JoinKind.TheVariants as join

abbrev pub Row : Type 0
Row = List Value

-- Which pairs are kept: for each left row, and in it for each right row, whether the two go together. CROSS and the
-- comma keep every pair, and the other joins those whose condition is TRUE.
abbrev pub Pairs : Type 0
Pairs = List (List Bool)

-- a left row with each right row that it is kept with
abbrev pub met : Row → List Row → List Bool → List Row
met left [] kept = []
met left (right ∷ rights) [] = []
met left (right ∷ rights) (true ∷ kept) = (left ++ right) ∷ met left rights kept
met left (right ∷ rights) (false ∷ kept) = met left rights kept

-- LEFT and FULL keep a left row that meets none, with NULL for each column of the right
abbrev pub padded_right : JoinKind → ℕ → Row → List Row → List Row
padded_right join.Left right_width left [] = (left ++ replicate right_width Null) ∷ []
padded_right join.Full right_width left [] = (left ++ replicate right_width Null) ∷ []
padded_right kind right_width left rows = rows

-- the rows that come from left rows, in the order of these
abbrev pub from_left : JoinKind → ℕ → List Row → List Row → Pairs → List Row
from_left kind right_width [] rights kept = []
from_left kind right_width (left ∷ lefts) rights [] = []
from_left kind right_width (left ∷ lefts) rights (row ∷ kept) =
    padded_right kind right_width left (met left rights row) ++ from_left kind right_width lefts rights kept

-- the pairs of the first right row, and those of the others
abbrev pub first_kept : Pairs → Bool
first_kept [] = false
first_kept ([] ∷ kept) = first_kept kept
first_kept ((this ∷ others) ∷ kept) = this || first_kept kept

abbrev pub other_pairs : Pairs → Pairs
other_pairs [] = []
other_pairs ([] ∷ kept) = [] ∷ other_pairs kept
other_pairs ((this ∷ others) ∷ kept) = others ∷ other_pairs kept

-- the right rows that meet no left row, with NULL for each column of the left
abbrev pub alone : ℕ → List Row → Pairs → List Row
alone left_width [] kept = []
alone left_width (right ∷ rights) kept =
    if first_kept kept then alone left_width rights (other_pairs kept)
    else ((replicate left_width Null ++ right) ∷ alone left_width rights (other_pairs kept))

-- RIGHT and FULL keep them
abbrev pub from_right : JoinKind → ℕ → List Row → Pairs → List Row
from_right join.Right left_width rights kept = alone left_width rights kept
from_right join.Full left_width rights kept = alone left_width rights kept
from_right kind left_width rights kept = []

-- The rows of a join, each a left row's values and then a right row's. The widths are how many columns each side has.
abbrev pub joined : JoinKind → ℕ → ℕ → List Row → List Row → Pairs → List Row
joined kind left_width right_width lefts rights kept = from_left kind right_width lefts rights kept ++ from_right kind left_width rights kept

-- the join of the two lists of rows has these rows
abbrev pub Joined : JoinKind → ℕ → ℕ → List Row → List Row → Pairs → List Row → Type 0
Joined kind left_width right_width lefts rights kept rows = rows ≡ joined kind left_width right_width lefts rights kept
