-- The rows of the numbers so far.
use Rattle.std.proofs.Common.{◌≡◌, ◌++◌, [], take, map, get_or}
use Rattle.eval_rows.proofs.join_parts.met_numbers.Given as goal

abbrev pub invariant-loop-number : goal.invariant-loop-number
invariant-loop-number l = l.rows ≡ map (λ number. l.left ++ get_or l.rights number []) (take l.number-index l.numbers)
