use Rattle.sql_strings.proofs.TrimLaws.{end-is}
use Rattle.sql_strings.proofs.trim.without_back_spaces.Goals as goal

pub returns : goal.returns
returns c = end-is c.args.text.now c.trim_end.result.now c.trim_end.utf8 c.trim_end.ensures.trim
