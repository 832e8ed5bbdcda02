use Rattle.sql_strings.proofs.ValueLaws.{null-number}
use Rattle.sql_strings.proofs.arguments.number_of.Goals as goal

pub returns-in_default : goal.returns-in_default
returns-in_default c = null-number c.args.value.now c.requires c.in_default.not-Int
