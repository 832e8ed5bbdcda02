-- The tokens of a text.
--
-- A piece is a token, a byte of white space or a comment. At each place the longest front of the text that begins the shape
-- of a piece must be one, and must say something. So an unfinished literal or comment is faulty although a shorter piece
-- stands at its start, and so is a name of 129 letters. Places are numbers of bytes from 0.
use Rattle.std.specs.Prelude.{◌≡◌, ℕ, ◌+◌, ◌<◌, Bool, false, List, [], ◌∷◌, length, take, drop, map, Some, None, Result, Ok, Err}
use Rattle.fronts.specs.Fronts.{Longest, Unfinished}
use Rattle.sql_ast.specs.declared.token.Lexeme.{Lexeme}
use Rattle.sql_ast.specs.declared.token.Token.{Token}
use Rattle.sql_ast.specs.declared.pieces.Shape.{Shape}
use Rattle.sql_ast.specs.declared.pieces.Piece.TheVariants as piece
use Rattle.sql_ast.specs.Classes.{class}
use Rattle.sql_ast.specs.Forms.{Form}
use Rattle.sql_ast.specs.Values.{read, is_dot}

-- the longest front of the text that begins a piece has this shape and this length
abbrev pub Next : List ℕ → Shape → ℕ → Type 0
Next text = Longest Form (map class text)

-- the longest front of the text that begins a piece has this length, and is none
abbrev pub NoPiece : List ℕ → ℕ → Type 0
NoPiece text = Unfinished Form (map class text)

-- The tokens of what is left of a text from a place on, where the last token before it is a `.` or not.
pub data Lexes : ℕ → Bool → List ℕ → List Token → Type 0 where
  -- nothing is left
  lexes_end : {at : ℕ} {dot : Bool} → Lexes at dot [] []
  -- white space or a comment comes next
  lexes_gap : {at : ℕ} {dot : Bool} {text : List ℕ} {tokens : List Token} (shape : Shape) (n : ℕ)
      → Next text shape n → read dot shape (take n text) ≡ Some piece.Gap → Lexes (at + n) dot (drop n text) tokens → Lexes at dot text tokens
  -- a token comes next
  lexes_token : {at : ℕ} {dot : Bool} {text : List ℕ} {tokens : List Token} (shape : Shape) (n : ℕ) (lexeme : Lexeme)
      → Next text shape n → read dot shape (take n text) ≡ Some (piece.Token lexeme) → Lexes (at + n) (is_dot lexeme) (drop n text) tokens
      → Lexes at dot text (record { lexeme = lexeme; start = at; «end» = at + n } ∷ tokens)

-- The same where a token or a comment can't be read, and the place of the first such one: that of its first byte.
pub data Faulty : ℕ → Bool → List ℕ → ℕ → Type 0 where
  -- the longest front that begins a piece is none
  faulty_shape : {at : ℕ} {dot : Bool} {text : List ℕ} (n : ℕ) → 0 < length text → NoPiece text n → Faulty at dot text at
  -- the piece that comes next says nothing
  faulty_value : {at : ℕ} {dot : Bool} {text : List ℕ} (shape : Shape) (n : ℕ) → Next text shape n → read dot shape (take n text) ≡ None → Faulty at dot text at
  -- white space or a comment comes next
  faulty_after_gap : {at : ℕ} {dot : Bool} {text : List ℕ} {place : ℕ} (shape : Shape) (n : ℕ)
      → Next text shape n → read dot shape (take n text) ≡ Some piece.Gap → Faulty (at + n) dot (drop n text) place → Faulty at dot text place
  -- a token comes next
  faulty_after_token : {at : ℕ} {dot : Bool} {text : List ℕ} {place : ℕ} (shape : Shape) (n : ℕ) (lexeme : Lexeme)
      → Next text shape n → read dot shape (take n text) ≡ Some (piece.Token lexeme) → Faulty (at + n) (is_dot lexeme) (drop n text) place → Faulty at dot text place

-- the tokens of the text, or the place of its first fault
abbrev pub TokensOf : List ℕ → Result (List Token) ℕ → Type 0
TokensOf text (Ok tokens) = Lexes 0 false text tokens
TokensOf text (Err place) = Faulty 0 false text place
