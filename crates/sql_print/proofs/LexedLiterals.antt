-- Each lexeme of a print is read back as itself.
use Rattle.std.proofs.Common.{Option, refl, sym, subst}
use Rattle.sql_names.specs.Spelling.{is_plain}
use Rattle.sql_ast.specs.declared.words.Word.{Word}
use Rattle.sql_ast.specs.declared.token.Lexeme.{Lexeme}
use Rattle.sql_ast.specs.declared.token.Lexeme.TheVariants as l
use Rattle.sql_print.proofs.Flows.{Fine}
use Rattle.sql_print.proofs.LexedSigns.{Lexing, sign_lexing, reserved_lexing}
use Rattle.sql_print.proofs.LexedTexts.{name_lexing}
use Rattle.sql_print.proofs.LexedQuotes.{text_lexing, bytes_lexing}
use Rattle.sql_print.proofs.LexedIntegers.{integer_lexing}
use Rattle.sql_print.proofs.LexedParameters.{parameter_lexing}

pub lexing : (x : Lexeme) → Fine x → Lexing x
lexing (l.Reserved w) f = reserved_lexing w
lexing (l.Name n o) f = subst (λ (k : Option Word). Lexing (l.Name n k)) (sym f.1) (name_lexing n f.0 (is_plain n) refl)
lexing (l.Integer n) f = integer_lexing n f.0
lexing (l.Text x) f = text_lexing x f.0
lexing (l.Bytes x) f = bytes_lexing x f.0
lexing (l.Parameter n) f = parameter_lexing n f.0 (is_plain n) refl
lexing (l.Sign x) f = sign_lexing x
