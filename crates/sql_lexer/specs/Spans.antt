-- What stands between the tokens of a text.
use Rattle.std.specs.Prelude.{ℕ, ◌-◌, ◌<◌, ◌≤◌, List, [], ◌∷◌, ◌++◌, length, take, drop, map}
use Rattle.sql_ast.specs.declared.token.Token.{Token}
use Rattle.sql_ast.specs.declared.pieces.Shape.TheVariants as s
use Rattle.sql_ast.specs.Classes.{class}
use Rattle.sql_ast.specs.Forms.{Form}

-- white space and comments, one behind another
pub data Gaps : List ℕ → Type 0 where
  gaps_none : Gaps []
  gaps_more : (u v : List ℕ) → Form s.Gap (map class u) → Gaps v → Gaps (u ++ v)

-- From a place of the text on the tokens stand in order and apart: each one has a byte and ends within the text, white space
-- and comments alone stand before it, and behind the last one too.
abbrev pub Apart : List ℕ → ℕ → List Token → Type 0
Apart text from [] = Gaps (drop from text)
Apart text from (t ∷ tokens) =
    (from ≤ t.start) × (t.start < t.end) × (t.end ≤ length text) × Gaps (take (t.start - from) (drop from text)) × Apart text t.end tokens
