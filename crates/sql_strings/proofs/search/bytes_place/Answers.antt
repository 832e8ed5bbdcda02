use Rattle.sql_strings.proofs.SearchLaws.{bytes-place-some, bytes-place-none}
use Rattle.sql_strings.proofs.search.bytes_place.Goals as goal

pub returns-in-Some : goal.returns-in-Some
returns-in-Some c = bytes-place-some c.args.content.now c.args.part.now c.in-Some.before c.in-Some.ensures

pub returns-in-None : goal.returns-in-None
returns-in-None c = bytes-place-none c.args.content.now c.args.part.now c.in-None.ensures
