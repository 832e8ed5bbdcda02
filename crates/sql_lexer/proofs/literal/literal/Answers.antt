use Rattle.std.proofs.Common.{sym, subst}
use Rattle.std.specs.Prelude.{IsUtf8}
use Rattle.sql_lexer.proofs.Utf8Values.{lines_utf8}
use Rattle.sql_lexer.proofs.literal.literal.Goals as goal

pub string_of-lines-requires : goal.string_of-lines-requires
string_of-lines-requires c = subst IsUtf8 (sym (c.in_ok-lines-in-Three.ensures)) (lines_utf8 c.as_bytes.result.now (c.as_bytes.ensures.utf8))
