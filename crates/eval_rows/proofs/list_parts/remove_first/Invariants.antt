-- So many rows are removed.
use Rattle.std.proofs.Common.{◌≡◌, drop}
use Rattle.eval_rows.proofs.list_parts.remove_first.Given as goal

abbrev pub invariant-loop-removed : goal.invariant-loop-removed
invariant-loop-removed l = l.list ≡ drop l.removed l.fn.list
