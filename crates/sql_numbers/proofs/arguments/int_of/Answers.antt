use Rattle.sql_numbers.proofs.ValueLaws.{null-int}
use Rattle.sql_numbers.proofs.arguments.int_of.Goals as goal

pub returns-in_default : goal.returns-in_default
returns-in_default c = null-int c.args.value.now c.requires c.in_default.not-Int
