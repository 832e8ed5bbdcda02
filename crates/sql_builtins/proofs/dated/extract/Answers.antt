use Rattle.std.proofs.Common.{sym, ◌∙◌}
use Rattle.sql_builtins.proofs.DateLaws.{extract-nameless}
use Rattle.sql_builtins.proofs.dated.extract.Goals as goal

pub returns-else-has_field : goal.returns-else-has_field
returns-else-has_field c = extract-nameless c.args.values.now (sym c.has_field.ensures ∙ c.if-has_field.false)
