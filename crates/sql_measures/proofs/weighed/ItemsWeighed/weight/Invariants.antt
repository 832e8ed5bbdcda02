-- The sum so far and what is left are the sum of all.
use Rattle.std.proofs.Common.{◌≡◌, ◌+◌, ◌≤◌, min, drop}
use Rattle.sql_ast.specs.Weights.{sum}
use Rattle.sql_measures.proofs.weighed.ItemsWeighed.weight.Given as goal

abbrev pub invariant-loop-part : goal.invariant-loop-part
invariant-loop-part g l = (l.sum ≤ 18446744073709551615) × (min (l.sum + sum g.P.Weighed.weighs (drop l.part-index l.self)) 18446744073709551615 ≡ min (sum g.P.Weighed.weighs l.self) 18446744073709551615)
