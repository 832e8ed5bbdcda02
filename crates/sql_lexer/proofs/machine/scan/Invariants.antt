use Rattle.std.proofs.Common.{length, ◌-◌}
use Rattle.sql_lexer.proofs.Scan.{Goes}
use Rattle.sql_lexer.proofs.machine.scan.Given as goal

abbrev pub invariant-bytes : goal.invariant-bytes
invariant-bytes l = Goes l.text l.from l.at l.state

abbrev pub decreases-bytes : goal.decreases-bytes
decreases-bytes l = length l.text - l.at
