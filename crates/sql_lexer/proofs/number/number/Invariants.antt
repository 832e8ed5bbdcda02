use Rattle.std.proofs.Common.{length, ◌-◌}
use Rattle.sql_lexer.proofs.Numbers.{Reading}
use Rattle.sql_lexer.proofs.number.number.Given as goal

abbrev pub invariant-digits : goal.invariant-digits
invariant-digits l = Reading l.base l.digits l.at l.number

abbrev pub decreases-digits : goal.decreases-digits
decreases-digits l = length l.digits - l.at
