use Rattle.sql_strings.proofs.TrimLaws.{start-is}
use Rattle.sql_strings.proofs.trim.without_front_spaces.Goals as goal

pub returns : goal.returns
returns c = start-is c.args.text.now c.trim_start.result.now c.trim_start.utf8 c.trim_start.ensures.trim
