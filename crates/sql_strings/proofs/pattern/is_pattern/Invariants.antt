-- The rest of the pattern, behind a backslash or not, has parts where the whole has.
use Rattle.std.proofs.Common.{◌≡◌, length}
use Rattle.std.specs.Prelude.{is_some}
use Rattle.sql_strings.specs.Patterns.{parts, parts_behind}
use Rattle.sql_strings.proofs.pattern.is_pattern.Given as goal

abbrev pub invariant-loop-first : goal.invariant-loop-first
invariant-loop-first g l = is_some (parts_behind l.escaped (g.S.Symbols.symbols l.rest)) ≡ is_some (parts (g.S.Symbols.symbols l.fn.pattern))

abbrev pub decreases-loop-first : goal.decreases-loop-first
decreases-loop-first g l = length (g.S.Symbols.symbols l.rest)
