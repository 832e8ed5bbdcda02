-- The rows of the tables so far stand behind those that were there.
use Rattle.std.proofs.Common.{◌≡◌, ◌++◌, take}
use Rattle.std.specs.List.{flat_map}
use Rattle.eval_rows.specs.Counts.{shown, rows_of}
use Rattle.eval_rows.proofs.set_parts.with_all.Given as goal

abbrev pub invariant-loop-operand : goal.invariant-loop-operand
invariant-loop-operand l = shown l.list.items ≡ shown l.fn.list.items ++ flat_map rows_of (take l.operand-index l.operands)
