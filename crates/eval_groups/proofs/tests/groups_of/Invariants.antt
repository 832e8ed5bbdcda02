-- The rows of the groups so far exist.
use Rattle.std.proofs.Common.{ℕ, ◌<◌}
use Rattle.std.specs.List.{All}
use Rattle.eval_groups.specs.declared.groups.Group.{Group}
use Rattle.eval_groups.proofs.tests.groups_of.Given as goal

abbrev pub invariant-loop-list : goal.invariant-loop-list
invariant-loop-list l = All (λ (group : Group). All (λ (number : ℕ). number < l.count) group.rows) l.groups
