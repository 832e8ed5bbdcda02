-- What the escapes that the code reads stand for.
use Rattle.std.specs.Prelude.{ℕ, List, [], ◌∷◌, encode_utf8}
use Rattle.sql_ast.specs.Values as values
use Rattle.sql_lexer.specs.declared.escape.Coded.{Coded}
use Rattle.sql_lexer.specs.declared.escape.Coded.TheVariants.{Byte, Point}
use Rattle.sql_lexer.specs.declared.escape.Escape.{Escape}

-- a byte is itself, and a code point is its UTF-8
abbrev pub bytes_of : Coded → List ℕ
bytes_of (Byte b) = b ∷ []
bytes_of (Point c) = encode_utf8 c

abbrev pub escape_of : Escape → values.Escape
escape_of e = record { bytes = bytes_of e.coded; size = e.size }
