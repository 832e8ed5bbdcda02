-- The rows so far stand behind those that were there.
use Rattle.std.proofs.Common.{◌≡◌, ◌++◌, take}
use Rattle.eval_rows.specs.Counts.{shown}
use Rattle.eval_rows.proofs.set_parts.with_rows.Given as goal

abbrev pub invariant-loop-row : goal.invariant-loop-row
invariant-loop-row l = shown l.list.items ≡ shown l.fn.list.items ++ take l.row-index l.rows
