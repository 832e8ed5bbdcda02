use Rattle.sql_strings.proofs.ValueLaws.{null_fits_int64}
use Rattle.sql_strings.proofs.tests.no_number.Goals as goal

pub returns : goal.returns
returns c = null_fits_int64
