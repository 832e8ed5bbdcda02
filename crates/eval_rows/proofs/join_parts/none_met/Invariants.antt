use Rattle.std.proofs.Common.{◌≡◌, replicate, false}
use Rattle.eval_rows.proofs.join_parts.none_met.Given as goal

abbrev pub invariant-loop-made : goal.invariant-loop-made
invariant-loop-made l = l.had ≡ replicate l.made false
