use Rattle.sql_strings.proofs.SearchLaws.{bytes-end}
use Rattle.sql_strings.proofs.search.bytes_end.Goals as goal

pub returns : goal.returns
returns c = bytes-end c.args.part.now c.args.bytes.now c.ends_with.result c.ends_with.ensures.value
