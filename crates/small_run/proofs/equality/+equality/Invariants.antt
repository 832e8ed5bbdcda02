-- What the fields so far give and what the others give make the whole by AND.
use Rattle.std.proofs.Common.{◌≡◌, map, drop}
use Rattle.sql_types.specs.Same as same
use Rattle.small_run.proofs.equality.+equality.Given as goal

abbrev pub invariant-equal_fields-loop-index : goal.invariant-equal_fields-loop-index
invariant-equal_fields-loop-index l =
    same.equal_fields (map same.equal l.left) l.right ≡ same.both_true l.truth (same.equal_fields (map same.equal (drop l.index l.left)) (drop l.index l.right))
