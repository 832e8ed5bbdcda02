use Rattle.std.proofs.Common.{length, ◌-◌}
use Rattle.sql_lexer.proofs.Unescape.{Unescaping}
use Rattle.sql_lexer.proofs.escape.unescape.Given as goal

abbrev pub invariant-bytes : goal.invariant-bytes
invariant-bytes l = Unescaping l.kind l.bytes l.at l.read.items

abbrev pub decreases-bytes : goal.decreases-bytes
decreases-bytes l = length l.bytes - l.at
