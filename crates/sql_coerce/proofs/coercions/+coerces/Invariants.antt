-- What the fields left say, all fields say.
use Rattle.std.proofs.Common.{◌≡◌, drop}
use Rattle.sql_coerce.specs.Coercions.{fields_coerce}
use Rattle.sql_coerce.proofs.coercions.+coerces.Given as goal

abbrev pub invariant-fields_coerce-loop-field : goal.invariant-fields_coerce-loop-field
invariant-fields_coerce-loop-field l = fields_coerce (drop l.field-index l.fields) l.rest ≡ fields_coerce l.fields l.others
