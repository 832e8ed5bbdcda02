-- The fields left can be cast and fit, and their values behind the ones so far are what all fields give.
use Rattle.std.proofs.Common.{◌≡◌, true, drop}
use Rattle.sql_types.specs.Fits.{fits_row}
use Rattle.sql_coerce.specs.Casts.{fields_castable, fields_converted}
use Rattle.sql_coerce.proofs.Behind.{behind}
use Rattle.sql_coerce.proofs.conversions.+convert.Given as goal

abbrev pub invariant-convert_fields-loop-value : goal.invariant-convert_fields-loop-value
invariant-convert_fields-loop-value l = record {
  castable : fields_castable l.more_froms l.more_tos ≡ true;
  fits : fits_row l.more_froms (drop l.value-index l.values) ≡ true;
  same : behind l.converted (fields_converted l.more_froms l.more_tos (drop l.value-index l.values)) ≡ fields_converted l.froms l.tos l.values;
}
