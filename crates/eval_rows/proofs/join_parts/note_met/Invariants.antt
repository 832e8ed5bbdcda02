-- The places so far are noted.
use Rattle.std.proofs.Common.{◌≡◌, take, length}
use Rattle.eval_rows.specs.Met.{either_each}
use Rattle.eval_rows.proofs.join_parts.note_met.Given as goal

abbrev pub invariant-loop-place : goal.invariant-loop-place
invariant-loop-place l = (l.had ≡ either_each l.fn.had (take l.place l.kept)) × (length l.had ≡ length l.kept)
