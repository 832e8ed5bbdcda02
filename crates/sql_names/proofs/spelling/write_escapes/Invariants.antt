-- The escapes of the bytes so far are written.
use Rattle.std.proofs.Common.{◌≡◌, ◌++◌, take}
use Rattle.sql_names.specs.Spelling.{escapes}
use Rattle.sql_names.proofs.spelling.write_escapes.Given as goal

abbrev pub invariant-loop-byte : goal.invariant-loop-byte
invariant-loop-byte l = l.out.items ≡ l.initial.out.items ++ escapes l.mark (take l.byte-index l.text)
