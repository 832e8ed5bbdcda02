use Rattle.sql_aggregates.proofs.TextLaws.{null_text}
use Rattle.sql_aggregates.proofs.texts.text_of.Goals as goal

pub returns-in_default : goal.returns-in_default
returns-in_default c = null_text c.args.value.now c.requires c.in_default.not-Text
