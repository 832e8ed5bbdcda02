-- What the fields left say, all fields say.
use Rattle.std.proofs.Common.{◌≡◌, drop}
use Rattle.sql_types.specs.Comparable.{all_comparable}
use Rattle.sql_types.proofs.sorts.+comparable.Given as goal

abbrev pub invariant-all_comparable-loop-field : goal.invariant-all_comparable-loop-field
invariant-all_comparable-loop-field l = all_comparable (drop l.field-index l.fields) ≡ all_comparable l.fields
