-- What the values left say, all values say.
use Rattle.std.proofs.Common.{◌≡◌, drop}
use Rattle.sql_types.specs.SameValue.{same_values}
use Rattle.sql_types.proofs.sameness.+same.Given as goal

abbrev pub invariant-same_values-loop-value : goal.invariant-same_values-loop-value
invariant-same_values-loop-value l = same_values (drop l.value-index l.left) l.rest ≡ same_values l.left l.right
