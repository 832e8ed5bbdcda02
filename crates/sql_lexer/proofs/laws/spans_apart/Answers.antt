use Rattle.sql_lexer.proofs.Apart as apart
use Rattle.sql_lexer.proofs.laws.spans_apart.Goals as goal

pub returns : goal.returns
returns c = λ text tokens l. apart.spans_apart text tokens l
