use Rattle.std.proofs.Common.{length, ◌-◌}
use Rattle.sql_lexer.proofs.Pieces.{Reached}
use Rattle.sql_lexer.proofs.lexer.lex.Given as goal

abbrev pub invariant-pieces : goal.invariant-pieces
invariant-pieces l = Reached l.text l.at l.dot l.list

abbrev pub decreases-pieces : goal.decreases-pieces
decreases-pieces l = length l.text - l.at
