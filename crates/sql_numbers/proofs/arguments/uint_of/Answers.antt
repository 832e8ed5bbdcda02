use Rattle.sql_numbers.proofs.ValueLaws.{null-uint}
use Rattle.sql_numbers.proofs.arguments.uint_of.Goals as goal

pub returns-in_default : goal.returns-in_default
returns-in_default c = null-uint c.args.value.now c.requires c.in_default.not-Uint
