use Rattle.sql_lexer.proofs.Counting.{goes_on}
use Rattle.sql_lexer.proofs.nesting.nest.Goals as goal

pub tokens-preserved : goal.tokens-preserved
tokens-preserved c =
    goes_on c.args.tokens.now.list c.tokens.at c.tokens.depth c.tokens.deepest c.tokens.invariant c.at.result.now c.at.ensures c.open_after-depth.result c.open_after-depth.ensures
    c.max-deepest.result c.max-deepest.ensures
