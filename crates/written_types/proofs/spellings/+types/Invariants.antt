-- The types so far, and behind them those of the fields left, are those of all fields.
use Rattle.std.proofs.Common.{◌≡◌, drop}
use Rattle.written_types.specs.Written.{written_fields}
use Rattle.written_types.proofs.WrittenLaws.{behind}
use Rattle.written_types.proofs.spellings.+types.Given as goal

abbrev pub invariant-field_types-loop-field : goal.invariant-field_types-loop-field
invariant-field_types-loop-field l = written_fields l.fields ≡ behind l.types (written_fields (drop l.field-index l.fields))
