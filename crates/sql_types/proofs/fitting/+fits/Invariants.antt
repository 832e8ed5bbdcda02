-- What the values left say, all values say.
use Rattle.std.proofs.Common.{◌≡◌, drop}
use Rattle.std.specs.List.{list_all}
use Rattle.sql_types.specs.Fits.{fits, fits_row}
use Rattle.sql_types.proofs.fitting.+fits.Given as goal

abbrev pub invariant-all_fit-loop-value : goal.invariant-all_fit-loop-value
invariant-all_fit-loop-value l = list_all (fits l.ty) (drop l.value-index l.values) ≡ list_all (fits l.ty) l.values

abbrev pub invariant-row_fits-loop-value : goal.invariant-row_fits-loop-value
invariant-row_fits-loop-value l = fits_row l.rest (drop l.value-index l.values) ≡ fits_row l.columns l.values
