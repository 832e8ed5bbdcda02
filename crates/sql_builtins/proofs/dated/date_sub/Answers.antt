use Rattle.std.proofs.Common.{sym, ◌∙◌}
use Rattle.sql_builtins.proofs.DateLaws.{sub-nameless}
use Rattle.sql_builtins.proofs.dated.date_sub.Goals as goal

pub returns-else-has_part : goal.returns-else-has_part
returns-else-has_part c = sub-nameless c.args.values.now (sym c.has_part.ensures ∙ c.if-has_part.false)
