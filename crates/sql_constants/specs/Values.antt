-- The constant that a text is, as a function.
use Rattle.std.specs.Prelude.{ℕ, nat_le, if◌then◌else◌, List, [], ◌∷◌, Option, Some, None, Result, Ok, Err}
use Rattle.fronts.specs.Readers.{Outcome, taken, stuck, deep}
use Rattle.sql_types.specs.declared.sql_type.SqlType.{SqlType}
use Rattle.sql_types.specs.declared.value.Value.{Value}
use Rattle.sql_ast.specs.declared.token.Token.{Token}
use Rattle.sql_ast.specs.Nest.{nest}
use Rattle.sql_lexer.proofs.Once.{some_answer}
use Rattle.sql_constants.specs.Readers.{constant_at}
use Rattle.sql_constants.specs.Reads.{turns}

-- what was read, where it took all tokens
abbrev pub all_taken : Outcome Token Value → Option Value
all_taken (taken x []) = Some x
all_taken (taken x (t ∷ rest)) = None
all_taken (stuck rest) = None
all_taken deep = None

abbrev pub tokens_value : SqlType → List Token → Option Value
tokens_value type tokens = if nat_le (nest tokens) 200 then all_taken (constant_at (turns tokens) type tokens) else None

abbrev pub answer_value : SqlType → Result (List Token) ℕ → Option Value
answer_value type (Ok tokens) = tokens_value type tokens
answer_value type (Err place) = None

-- The value of the type that the text is a constant of, or nothing. `ConstantText` says this of it and of nothing else, since
-- each text has tokens or a first fault, and one constant at most.
unfoldable pub constant_value : SqlType → List ℕ → Option Value
constant_value type text = answer_value type (some_answer text).0
