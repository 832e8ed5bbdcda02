use Rattle.parse_words.proofs.Cells.{cell}
use Rattle.parse_words.proofs.cursor.token_at.Goals as goal

pub returns-then-at-len-clause-stands : goal.returns-then-at-len-clause-stands
returns-then-at-len-clause-stands c = cell c.args.tokens.now.list c.args.at c.at.result.now c.at.ensures
