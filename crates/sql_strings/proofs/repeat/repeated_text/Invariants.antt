-- So many times the text so far.
use Rattle.std.proofs.Common.{◌≡◌}
use Rattle.std.specs.String.{string_bytes}
use Rattle.sql_strings.specs.Texts.{repeated}
use Rattle.sql_strings.proofs.repeat.repeated_text.Given as goal

abbrev pub invariant-loop : goal.invariant-loop
invariant-loop l = string_bytes l.made ≡ repeated l.counter l.text
