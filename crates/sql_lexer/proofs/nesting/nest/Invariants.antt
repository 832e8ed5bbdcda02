use Rattle.std.proofs.Common.{length, ◌-◌}
use Rattle.sql_lexer.proofs.Counting.{Counting}
use Rattle.sql_lexer.proofs.nesting.nest.Given as goal

abbrev pub invariant-tokens : goal.invariant-tokens
invariant-tokens l = Counting l.tokens.list l.at l.depth l.deepest

abbrev pub decreases-tokens : goal.decreases-tokens
decreases-tokens l = length l.tokens.list - l.at
