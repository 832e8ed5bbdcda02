-- A list is one of its own orders.
use Rattle.std.proofs.Common.{List, [], ◌∷◌}
use Rattle.sql_types.specs.declared.value.Value.{Value}
use Rattle.sql_types.specs.Arranged.{Permutes, permutes_none, permutes_skip, Arranged}

pub permutes_refl : {A : Type 0} (xs : List A) → Permutes xs xs
permutes_refl [] = permutes_none
permutes_refl (x ∷ xs) = permutes_skip (permutes_refl xs)

-- without items every order is arranged, the one at hand too
pub arranged_refl : (rows : List (List Value)) → Arranged [] rows rows
arranged_refl rows = record { permutes = permutes_refl rows; ordered = λ i j before within less. cc }
