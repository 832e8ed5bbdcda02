-- The sets so far and those that are left are all sets.
use Rattle.std.proofs.Common.{◌≡◌, ◌+◌, ◌≤◌, min, drop}
use Rattle.sql_ast.specs.Weights.{sum, set_sets}
use Rattle.sql_measures.proofs.sets.listed_sets.Given as goal

abbrev pub invariant-loop-set : goal.invariant-loop-set
invariant-loop-set g l = (l.count ≤ 18446744073709551615) × (min (l.count + sum set_sets (drop l.set-index l.sets)) 18446744073709551615 ≡ min (sum set_sets l.sets) 18446744073709551615)
