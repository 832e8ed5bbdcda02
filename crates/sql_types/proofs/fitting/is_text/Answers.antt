-- The bytes of a text are UTF-8.
use Rattle.std.proofs.Common.{sym}
use Rattle.std.proofs.lemmas.Str.{is_utf8-from_IsUtf8}
use Rattle.sql_types.proofs.fitting.is_text.Goals as goal

pub returns : goal.returns
returns c = sym (is_utf8-from_IsUtf8 c.args.text.now c.as_bytes-bytes.ensures.utf8)
