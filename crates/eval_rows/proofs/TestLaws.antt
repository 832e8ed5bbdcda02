-- What a place says of the columns of the tests.
use Rattle.std.proofs.Common.{◌≡◌, ℕ, zero, suc, ◌<◌, ◌≤◌, true, List, [], ◌∷◌, length, get_or, refl, arith}
use Rattle.sql_types.specs.declared.sql_type.Named.{Named}
use Rattle.sql_types.specs.declared.sql_type.SqlType.{SqlType}
use Rattle.sql_types.specs.Comparable.{orderable}
use Rattle.sql_types.specs.Sorting.{orders_column}

pub orders_past : (columns : List (Named SqlType)) (place : ℕ) → length columns ≤ place → orders_column columns place ≡ true
orders_past [] place past = refl
orders_past (c ∷ columns) zero past = absurd (omega (arith, past))
orders_past (c ∷ columns) (suc place) past = orders_past columns place (omega (arith, past))

pub orders_read : (columns : List (Named SqlType)) (place : ℕ) (absent : Named SqlType) → place < length columns → orderable (get_or columns place absent).ty ≡ orders_column columns place
orders_read [] place absent within = absurd (omega (arith, within))
orders_read (c ∷ columns) zero absent within = refl
orders_read (c ∷ columns) (suc place) absent within = orders_read columns place absent (omega (arith, within))
