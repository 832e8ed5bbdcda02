-- What the lexer answers.
use Rattle.std.specs.Prelude.{◌≡◌, ℕ, ◌-◌, ◌≤◌, List, length, drop, map, Option, Result, Ok, Err}
use Rattle.fronts.specs.Fronts.{Front}
use Rattle.sql_ast.specs.declared.pieces.Shape.{Shape}
use Rattle.sql_ast.specs.Classes.{class}
use Rattle.sql_ast.specs.Forms.{Form}
use Rattle.sql_ast.specs.Tokens.{TokensOf}
use Rattle.sql_lexer.specs.declared.tokens.Tokens.{Tokens}
use Rattle.sql_lexer.specs.declared.tokens.LexFault.{LexFault}
use Rattle.sql_lexer.specs.declared.tokens.LexFault.TheVariants.{At, OutOfMemory}

-- the longest front of the text from a place on that begins a piece stops here, and is of this shape, or is no piece
pub record Stood (text : List ℕ) (at stop : ℕ) (shape : Option Shape) : Type 0 where
  pub from : at ≤ stop
  pub front : Front Form (map class (drop at text)) (stop - at) shape

-- the tokens of the text with its length as their end, or the place of its first fault; memory may be wanting at any time
abbrev pub Lexed : List ℕ → Result Tokens LexFault → Type 0
Lexed text (Ok tokens) = TokensOf text (Ok tokens.list) × (tokens.end ≡ length text)
Lexed text (Err (At place)) = TokensOf text (Err place)
Lexed text (Err OutOfMemory) = Unit {0}
