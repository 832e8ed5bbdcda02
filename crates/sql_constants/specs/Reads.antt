-- What a function that reads from a place of the tokens has read.
use Rattle.std.specs.Prelude.{◌≡◌, ℕ, suc, ◌+◌, ◌≤◌, List, [], ◌∷◌, length, drop, Option, Some, None, Result, Ok, Err, Bool}
use denote.Ref.{Bor}
use Rattle.fronts.specs.Readers.{Outcome, taken, stuck}
use Rattle.sql_types.specs.declared.sql_type.SqlType.{SqlType}
use Rattle.sql_types.specs.declared.value.Value.{Value}
use Rattle.sql_ast.specs.Nest.{nest}
use Rattle.sql_ast.specs.Marks.{reserved, sign, word, integer, text, bytes}
use Rattle.sql_ast.specs.declared.token.Token.{Token}
use Rattle.sql_constants.specs.Constants.{ConstantOf}
use Rattle.sql_constants.specs.Readers.{Parser, comma_behind}
use Rattle.sql_constants.specs.declared.cursor.Miss.{Miss}
use Rattle.sql_constants.specs.declared.cursor.Miss.TheVariants.{NoConstant, OutOfMemory}
use Rattle.sql_constants.specs.declared.cursor.Mark.{Mark}
use Rattle.sql_constants.specs.declared.cursor.Mark.TheVariants as m

-- which tokens a mark stands for
abbrev pub marked : Mark → Token → Bool
marked (m.Reserved x) = reserved x
marked (m.Sign x) = sign x
marked (m.Word x) = word x
marked m.Integer = integer
marked m.Text = text
marked m.Bytes = bytes

-- the tokens from a place on
abbrev pub from : List Token → ℕ → List Token
from tokens at = drop at tokens

-- as many turns as all these tokens may need
abbrev pub turns : List Token → ℕ
turns tokens = suc (length tokens)

-- the token at a place is this one, or none stands there
abbrev pub Stands : List Token → ℕ → Option (Bor Token) → Type 0
Stands tokens at None = from tokens at ≡ []
Stands tokens at (Some t) = from tokens at ≡ t.now ∷ from tokens (at + 1)

-- nothing is read: some token fits nothing, or none is left
pub record Stuck {A : Type 0} (outcome : Outcome Token A) : Type 0 where
  pub rest : List Token
  pub is : outcome ≡ stuck rest

-- memory may be wanting at any time
abbrev pub Misses : {A : Type 0} → Outcome Token A → Miss → Type 0
Misses outcome NoConstant = Stuck outcome
Misses outcome OutOfMemory = Unit {0}

-- what was read, and the place of the next token, are the outcome of a reader
abbrev pub Reads : {A : Type 0} → List Token → Outcome Token A → Result (A × ℕ) Miss → Type 0
Reads tokens outcome (Ok p) = outcome ≡ taken p.0 (from tokens p.1)
Reads tokens outcome (Err miss) = Misses outcome miss

-- the same for one token
abbrev pub Takes : List Token → Outcome Token Token → Result (Bor Token × ℕ) Miss → Type 0
Takes tokens outcome (Ok p) = outcome ≡ taken p.0.now (from tokens p.1)
Takes tokens outcome (Err miss) = Misses outcome miss

-- what is read behind a comma, unless it is the first, is read from this place on
abbrev pub ReadsComma : List Token → List Value → ℕ → Result ℕ Miss → Type 0
ReadsComma tokens found at (Ok next) = (reader : Parser (List Value)) → comma_behind found reader (from tokens at) ≡ reader (from tokens next)
ReadsComma tokens found at (Err miss) = (reader : Parser (List Value)) → Misses (comma_behind found reader (from tokens at)) miss

-- what is found in tokens: the constant that they all are, where they nest at most 200 deep; or none
abbrev pub ConstantTokens : SqlType → List Token → Option Value → Type 0
ConstantTokens type tokens (Some x) = (nest tokens ≤ 200) × ConstantOf type tokens x
ConstantTokens type tokens None = (x : Value) → nest tokens ≤ 200 → ConstantOf type tokens x → ⊥
