-- What the numbers that are left note gives what all note.
use Rattle.std.proofs.Common.{◌≡◌, length, drop}
use Rattle.eval_rows.specs.Met.{noted_at}
use Rattle.eval_rows.proofs.join_parts.note_numbers.Given as goal

abbrev pub invariant-loop-number : goal.invariant-loop-number
invariant-loop-number l = (length l.had ≡ length l.fn.had) × (noted_at l.had (drop l.number-index l.numbers) ≡ noted_at l.fn.had l.numbers)
