-- The token that was kept.
use Rattle.std.specs.Prelude.{ℕ}
use Rattle.sql_ast.specs.declared.token.Lexeme.{Lexeme}
use Rattle.sql_ast.specs.declared.token.Lexeme.TheVariants as l
use Rattle.sql_ast.specs.declared.token.Token.{Token}
use Rattle.parse_words.specs.declared.kept.KeptLexeme.{KeptLexeme}
use Rattle.parse_words.specs.declared.kept.KeptLexeme.TheVariants as k

abbrev pub lexeme_of : KeptLexeme → Lexeme
lexeme_of (k.Sign x) = l.Sign x
lexeme_of (k.Word x) = l.Reserved x

abbrev pub kept_token : KeptLexeme → ℕ → ℕ → Token
kept_token x start end = record { lexeme = lexeme_of x; start = start; end = end }
