-- The tokens of the canonical print, and how they stand beside each other.
use Rattle.std.specs.Prelude.{ℕ, Bool, true, false, ◌&&◌, if◌then◌else◌, List, [], ◌∷◌, ◌++◌, map, codes, decimal, Option, None, Some}
use Rattle.sql_names.specs.declared.words.Reserved.{Reserved}
use Rattle.sql_ast.specs.declared.words.Sign.{Sign}
use Rattle.sql_ast.specs.declared.words.Sign.TheVariants as s
use Rattle.sql_ast.specs.declared.words.Word.{Word}
use Rattle.sql_names.specs.declared.words.TheConstants.{RESERVED}
use Rattle.sql_ast.specs.declared.words.TheConstants.{WORDS, SIGNS}
use Rattle.sql_ast.specs.declared.token.Lexeme.{Lexeme}
use Rattle.sql_ast.specs.declared.token.Lexeme.TheVariants as l
use Rattle.sql_ast.specs.Marks.{same_reserved, same_word, same_sign}
use Rattle.sql_names.specs.Spelling.{is_plain, quote_name, quote_text}
use Rattle.sql_ast.specs.Literals.{quote_bytes}
use Rattle.sql_ast.specs.Words.{word_of}

-- ---- how a token is spelled

-- the entry of a table for a word or sign
abbrev pub spelled_by : {A : Type 0} → (A → A → Bool) → List (List ℕ × A) → A → List ℕ
spelled_by same [] a = []
spelled_by same (entry ∷ entries) a = if same entry.1 a then entry.0 else spelled_by same entries a

-- words in upper case, names in backquotes where they aren't plain, integers in decimal
unfoldable pub lexeme_text : Lexeme → List ℕ
lexeme_text (l.Reserved w) = spelled_by same_reserved (map (λ e. (e.0.now, e.1)) RESERVED) w
lexeme_text (l.Name name word) = quote_name name
lexeme_text (l.Integer n) = decimal n
lexeme_text (l.Text text) = quote_text text
lexeme_text (l.Bytes bytes) = quote_bytes bytes
lexeme_text (l.Parameter name) = 64 ∷ quote_name name
lexeme_text (l.Sign x) = spelled_by same_sign (map (λ e. (e.0.now, e.1)) SIGNS) x

-- ---- how tokens stand beside each other

-- a token, and whether a space may stand before it and behind it
pub record Piece : Type 0 where
  pub lexeme : Lexeme
  pub before : Bool
  pub behind : Bool

-- one space stands between two tokens, unless the first takes none behind it or the second none before it
abbrev pub space : Piece → Piece → List ℕ
space first second = if first.behind && second.before then codes " " else []

abbrev pub text_behind : Piece → List Piece → List ℕ
text_behind last [] = []
text_behind last (piece ∷ pieces) = (space last piece ++ lexeme_text piece.lexeme) ++ text_behind piece pieces

-- the text of tokens
abbrev pub text_of : List Piece → List ℕ
text_of [] = []
text_of (piece ∷ pieces) = lexeme_text piece.lexeme ++ text_behind piece pieces

-- ---- the tokens

abbrev pub spaced : Lexeme → Piece
spaced lexeme = record { lexeme = lexeme; before = true; behind = true }

abbrev pub word : Reserved → Piece
word w = spaced (l.Reserved w)

-- the word of the grammar that a name spells where it is plain
abbrev pub word_if_plain : List ℕ → Option Word
word_if_plain name = if is_plain name then word_of name else None

abbrev pub name : List ℕ → Piece
name text = spaced (l.Name text (word_if_plain text))

abbrev pub spelled_word : Word → List ℕ
spelled_word w = spelled_by same_word (map (λ e. (e.0.now, e.1)) WORDS) w

-- a word that the grammar reads at its place
abbrev pub read_word : Word → Piece
read_word w = spaced (l.Name (spelled_word w) (Some w))

-- no space before `)`, `]`, `,` and `.`
abbrev pub space_before : Sign → Bool
space_before s.CloseRound = false
space_before s.CloseSquare = false
space_before s.Comma = false
space_before s.Dot = false
space_before x = true

-- and none behind `(`, `[` and `.`
abbrev pub space_behind : Sign → Bool
space_behind s.OpenRound = false
space_behind s.OpenSquare = false
space_behind s.Dot = false
space_behind x = true

abbrev pub sign : Sign → Piece
sign x = record { lexeme = l.Sign x; before = space_before x; behind = space_behind x }

-- none between a call's name and its `(`, none before the `[` of a subscript, and none round `<` and `>` of a type
abbrev pub close_sign : Sign → Piece
close_sign x = record { lexeme = l.Sign x; before = false; behind = false }

-- ---- lists of tokens

-- the parts with commas between
abbrev pub after_commas : List (List Piece) → List Piece
after_commas [] = []
after_commas (part ∷ parts) = (sign s.Comma ∷ part) ++ after_commas parts

abbrev pub with_commas : List (List Piece) → List Piece
with_commas [] = []
with_commas (part ∷ parts) = part ++ after_commas parts

-- in brackets
abbrev pub bracketed : List Piece → List Piece
bracketed pieces = sign s.OpenRound ∷ (pieces ++ sign s.CloseRound ∷ [])

-- in brackets directly behind a call's name
abbrev pub call_brackets : List Piece → List Piece
call_brackets pieces = close_sign s.OpenRound ∷ (pieces ++ sign s.CloseRound ∷ [])

-- a part that may be missing
abbrev pub if_there : {A : Type 0} → (A → List Piece) → Option A → List Piece
if_there print None = []
if_there print (Some x) = print x

abbrev pub if_so : Bool → List Piece → List Piece
if_so true pieces = pieces
if_so false pieces = []
