use Rattle.std.proofs.Common.{sym}
use Rattle.sql_lexer.proofs.Utf8Values.{unescape_utf8}
use Rattle.sql_lexer.proofs.literal.unescaped.Goals as goal

pub string_of-requires : goal.string_of-requires
string_of-requires c = unescape_utf8 c.as_bytes.result.now c.in-Some.bytes.items (c.as_bytes.ensures.utf8) (sym (rw (c.in-Some.is) at (c.in_ok-bytes.ensures)))
