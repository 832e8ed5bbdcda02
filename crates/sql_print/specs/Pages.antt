-- A page of written text: its text, and whether the token that was written last lets a space stand behind it.
use Rattle.std.specs.Prelude.{ℕ, Bool, false, ◌&&◌, if◌then◌else◌, List, [], ◌∷◌, ◌++◌, codes}
use Rattle.sql_ast.specs.Pieces.{Piece, lexeme_text}

pub record Page : Type 0 where
  pub text : List ℕ
  pub behind : Bool

abbrev pub blank : Page
blank = record { text = []; behind = false }

-- what stands between the page and a token
abbrev pub gap : Page → Bool → List ℕ
gap page before = if page.behind && before then codes " " else []

-- the page with one token more
unfoldable pub after : Page → Piece → Page
after page piece = record { text = (page.text ++ gap page piece.before) ++ lexeme_text piece.lexeme; behind = piece.behind }

-- the page with more tokens
abbrev pub written : Page → List Piece → Page
written page [] = page
written page (piece ∷ pieces) = written (after page piece) pieces
