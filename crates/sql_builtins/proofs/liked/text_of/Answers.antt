use Rattle.sql_strings.proofs.ValueLaws.{null-text}
use Rattle.sql_builtins.proofs.liked.text_of.Goals as goal

pub returns-in_default : goal.returns-in_default
returns-in_default c = null-text c.args.value.now c.requires c.in_default.not-Text
