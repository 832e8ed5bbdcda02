-- The bytes so far are written.
use Rattle.std.proofs.Common.{◌≡◌, ◌++◌, take}
use Rattle.sql_ast.specs.Literals.{bytes_text}
use Rattle.sql_ast.proofs.spelling.write_each_byte.Given as goal

abbrev pub invariant-loop-byte : goal.invariant-loop-byte
invariant-loop-byte l = l.out.items ≡ l.initial.out.items ++ bytes_text (take l.byte-index l.bytes)
