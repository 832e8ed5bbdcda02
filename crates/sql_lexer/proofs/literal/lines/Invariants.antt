use Rattle.std.proofs.Common.{◌≡◌, ◌++◌, ◌-◌, length, drop}
use Rattle.sql_ast.specs.Values.{lines_after}
use Rattle.sql_lexer.proofs.literal.lines.Given as goal

abbrev pub invariant-bytes : goal.invariant-bytes
invariant-bytes l = l.read.items ++ lines_after l.before (drop l.at l.bytes) ≡ lines_after 0 l.bytes

abbrev pub decreases-bytes : goal.decreases-bytes
decreases-bytes l = length l.bytes - l.at
