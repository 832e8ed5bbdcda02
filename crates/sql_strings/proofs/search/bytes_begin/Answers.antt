use Rattle.sql_strings.proofs.SearchLaws.{bytes-begin}
use Rattle.sql_strings.proofs.search.bytes_begin.Goals as goal

pub returns : goal.returns
returns c = bytes-begin c.args.part.now c.args.bytes.now c.starts_with.result c.starts_with.ensures.value
