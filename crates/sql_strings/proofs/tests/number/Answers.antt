use mir.Facts.{to_z-of_z}
use Rattle.sql_strings.proofs.ValueLaws.{number_fits, number_inside}
use Rattle.sql_strings.proofs.tests.number.Goals as goal

pub returns : goal.returns
returns c = rw (to_z-of_z c.ranges.number) (number_fits c.args.number (number_inside c.args.number c.ranges.number))
