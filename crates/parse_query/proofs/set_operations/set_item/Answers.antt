-- The second word was read, so a token was left.
use Rattle.parse_query.proofs.Inside.{some_left, anyway}
use Rattle.parse_query.proofs.set_operations.set_item.Goals as goal

pub returns-clause-within : goal.returns-clause-within
returns-clause-within g c = anyway c.set_term.result (some_left _ c.args.reader.now.tokens.now.list c.args.at _ _ c.in_ok-at.ensures.reads)
