-- So many times the bytes so far.
use Rattle.std.proofs.Common.{◌≡◌}
use Rattle.sql_strings.specs.Texts.{repeated}
use Rattle.sql_strings.proofs.repeat.repeated_bytes.Given as goal

abbrev pub invariant-loop : goal.invariant-loop
invariant-loop l = l.made.items ≡ repeated l.counter l.content
