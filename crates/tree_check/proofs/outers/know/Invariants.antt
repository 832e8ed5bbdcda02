-- The numbers so far are known.
use Rattle.std.proofs.Common.{◌≡◌, ◌||◌, ℕ, take}
use Rattle.resolved_ast.specs.Columns.{among}
use Rattle.tree_check.proofs.outers.know.Given as goal

abbrev pub invariant-loop-number : goal.invariant-loop-number
invariant-loop-number l = (n : ℕ) → among n l.known ≡ (among n l.initial.known || among n (take l.number-index l.numbers))
