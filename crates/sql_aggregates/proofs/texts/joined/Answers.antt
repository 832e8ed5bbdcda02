use Rattle.sql_aggregates.proofs.TextLaws.{null_separator, joined_by_null}
use Rattle.sql_aggregates.proofs.texts.joined.Goals as goal

pub returns-in_default : goal.returns-in_default
returns-in_default c = joined_by_null c.args.separator.now c.args.texts.now (null_separator c.args.separator.now c.requires.separator c.in_default.not-Text)
