use Rattle.sql_strings.proofs.ValueLaws.{null_fits_bytes}
use Rattle.sql_strings.proofs.tests.bytes.Goals as goal

pub returns-then-eq : goal.returns-then-eq
returns-then-eq c = null_fits_bytes
