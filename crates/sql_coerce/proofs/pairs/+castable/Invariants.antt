-- What the fields left say, all fields say.
use Rattle.std.proofs.Common.{◌≡◌, drop}
use Rattle.sql_coerce.specs.Casts.{fields_castable}
use Rattle.sql_coerce.proofs.pairs.+castable.Given as goal

abbrev pub invariant-fields_castable-loop-field : goal.invariant-fields_castable-loop-field
invariant-fields_castable-loop-field l = fields_castable (drop l.field-index l.fields) l.rest ≡ fields_castable l.fields l.others
