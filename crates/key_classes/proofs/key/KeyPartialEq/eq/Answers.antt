use Rattle.std.proofs.Common.{◌≡◌, ℕ, zero, suc, ◌<◌, Bool, false, List, [], ◌∷◌, length, drop, arith}
use Rattle.sql_types.specs.declared.value.Value.{Value}
use Rattle.sql_types.specs.SameValue.{same_values}
use Rattle.key_classes.specs.Classes.{key_of}
use Rattle.key_classes.specs.Keys.{values_of}
use Rattle.key_classes.proofs.key.KeyPartialEq.eq.Goals as goal

-- a key with a value more differs
no_more : (columns : List ℕ) (i : ℕ) (row : List Value) (rest : List ℕ) (other : List Value) (b : Bool) → i < length columns → length rest < 1 → same_values (key_of (drop i columns) row) (key_of rest other) ≡ b → false ≡ b
no_more [] i row rest other b within few is = absurd (omega arith)
no_more (x ∷ xs) zero row [] other b within few is = is
no_more (x ∷ xs) zero row (y ∷ ys) other b within few is = absurd (omega arith)
no_more (x ∷ xs) (suc i) row rest other b within few is = no_more xs i row rest other b (omega arith) few is

pub returns-in-empty : goal.returns-in-empty
returns-in-empty c =
    no_more c.args.self.now.columns.now c.loop-column.column-index c.args.self.now.row.now c.loop-column.rest.now c.args.other.now.row.now (same_values (values_of c.args.self.now) (values_of c.args.other.now))
    c.loop-column-test.true c.in-empty.len_below c.loop-column.invariant
