-- How deep the brackets of a text nest.
use Rattle.std.specs.Prelude.{ℕ, ◌+◌, ◌-◌, max, List, [], ◌∷◌}
use Rattle.sql_ast.specs.declared.token.Lexeme.{Lexeme}
use Rattle.sql_ast.specs.declared.token.Lexeme.TheVariants as lexeme
use Rattle.sql_ast.specs.declared.token.Token.{Token}
use Rattle.sql_names.specs.declared.words.Reserved.{Reserved}
use Rattle.sql_names.specs.declared.words.Reserved.TheVariants as word
use Rattle.sql_ast.specs.declared.words.Sign.{Sign}
use Rattle.sql_ast.specs.declared.words.Sign.TheVariants as sign

-- `(` and `[` open a bracket, `)` and `]` close one if one is open
abbrev pub open_after_sign : Sign → ℕ → ℕ
open_after_sign sign.OpenRound open_before = open_before + 1
open_after_sign sign.OpenSquare open_before = open_before + 1
open_after_sign sign.CloseRound open_before = open_before - 1
open_after_sign sign.CloseSquare open_before = open_before - 1
open_after_sign _ open_before = open_before

-- so do the reserved words CASE and END
abbrev pub open_after_word : Reserved → ℕ → ℕ
open_after_word word.Case open_before = open_before + 1
open_after_word word.End open_before = open_before - 1
open_after_word _ open_before = open_before

-- how many brackets are open behind a token, where so many are open before it
abbrev pub open_after : Lexeme → ℕ → ℕ
open_after (lexeme.Sign x) open_before = open_after_sign x open_before
open_after (lexeme.Reserved w) open_before = open_after_word w open_before
open_after _ open_before = open_before

-- the greatest number of brackets that are open at one place, where so many are open before the tokens
abbrev pub nest_from : ℕ → List Token → ℕ
nest_from open_before [] = open_before
nest_from open_before (t ∷ tokens) = max open_before (nest_from (open_after t.lexeme open_before) tokens)

unfoldable pub nest : List Token → ℕ
nest tokens = nest_from 0 tokens
