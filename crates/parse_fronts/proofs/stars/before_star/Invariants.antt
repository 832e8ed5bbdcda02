-- Each expression that ends before such a `.` ends there or behind.
use Rattle.std.proofs.Common.{◌≤◌}
use Rattle.parse_fronts.proofs.StarLaws.{Ahead}
use Rattle.parse_fronts.proofs.stars.before_star.Given as goal

abbrev pub invariant-loop-dot : goal.invariant-loop-dot
invariant-loop-dot l = (l.at ≤ l.dot) × Ahead l.tokens l.at l.byte l.dot
