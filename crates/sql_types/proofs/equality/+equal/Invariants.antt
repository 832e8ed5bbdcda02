-- The values so far, none of which is FALSE, and those left say what all say.
use Rattle.std.proofs.Common.{◌≡◌, drop, map}
use Rattle.sql_types.specs.Same.{equal, equal_fields, both_true}
use Rattle.sql_types.proofs.EqualSteps.{so_far}
use Rattle.sql_types.proofs.equality.+equal.Given as goal

abbrev pub invariant-equal_values-loop-value : goal.invariant-equal_values-loop-value
invariant-equal_values-loop-value l = both_true (so_far l.null) (equal_fields (map equal (drop l.value-index l.left)) l.rest) ≡ equal_fields (map equal l.left) l.right
