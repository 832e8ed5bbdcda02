-- The rows so far are copied.
use Rattle.std.proofs.Common.{◌≡◌, take}
use Rattle.eval_rows.specs.Counts.{shown}
use Rattle.eval_rows.proofs.set_parts.copies.Given as goal

abbrev pub invariant-loop-row : goal.invariant-loop-row
invariant-loop-row l = l.rows ≡ shown (take l.row-index l.list)
