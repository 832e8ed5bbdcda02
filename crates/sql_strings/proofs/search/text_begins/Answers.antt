use Rattle.sql_strings.proofs.CharLaws.{text-begins}
use Rattle.sql_strings.proofs.search.text_begins.Goals as goal

pub returns : goal.returns
returns c = text-begins c.args.part.now c.args.text.now c.starts_with.result c.utf8.part c.utf8.text c.starts_with.ensures.cases
