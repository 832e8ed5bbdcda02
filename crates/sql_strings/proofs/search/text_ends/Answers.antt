use Rattle.sql_strings.proofs.CharLaws.{text-ends}
use Rattle.sql_strings.proofs.search.text_ends.Goals as goal

pub returns : goal.returns
returns c = text-ends c.args.part.now c.args.text.now c.ends_with.result c.utf8.part c.utf8.text c.ends_with.ensures.cases
