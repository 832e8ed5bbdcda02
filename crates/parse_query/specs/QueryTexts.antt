-- Texts of queries and of expressions: which tree a text spells, and where its fault is, if it spells none.
use Rattle.std.specs.Prelude.{◌≡◌, ◌⊎◌, ℕ, List, length, drop, Result, Ok, Err}
use Rattle.fronts.specs.Fronts.{Language}
use Rattle.fronts.specs.Texts.{Spells, NoTree}
use Rattle.sql_ast.specs.declared.expr.Expr.{Expr}
use Rattle.sql_ast.specs.declared.query.Query.{Query}
use Rattle.sql_ast.specs.declared.refusal.Refusal.{Refusal}
use Rattle.sql_ast.specs.declared.refusal.Refusal.TheVariants.{Rule, OutOfMemory}
use Rattle.sql_ast.specs.declared.token.Token.{Token}
use Rattle.sql_ast.specs.Grammar.{ExprOf, TextOf}
use Rattle.sql_ast.specs.Tokens.{TokensOf}
use Rattle.parse_words.specs.Reads.{fault_place}

-- The tokens spell no word of the language, and this is where the first of them begins with which no word begins, or the
-- end of the text where there is no such token. The first number is the place of that end.
abbrev pub NothingOf : {A : Type 0} → Language Token A → ℕ → List Token → ℕ → Type 0
NothingOf L end tokens place = (n : ℕ) × NoTree L tokens n × (place ≡ fault_place end (drop n tokens))

-- The tokens of a text, which ends at this byte, spell the tree and no other; or rule 1 is broken at the first token that
-- no word of the language can have there. Memory may be wanting at any time.
abbrev pub SpelledBy : {A : Type 0} → Language Token A → ℕ → List Token → Result A Refusal → Type 0
SpelledBy L end tokens (Ok tree) = Spells L tokens tree
SpelledBy L end tokens (Err (Rule rule place)) = (rule ≡ 1) × NothingOf L end tokens place
SpelledBy L end tokens (Err OutOfMemory) = Unit {0}

-- The same of the bytes of a text: rule 1 is also broken where the text has no tokens, at its first fault.
abbrev pub ReadAs : {A : Type 0} → Language Token A → List ℕ → Result A Refusal → Type 0
ReadAs L bytes (Ok tree) = (tokens : List Token) × TokensOf bytes (Ok tokens) × Spells L tokens tree
ReadAs L bytes (Err (Rule rule place)) =
    ((rule ≡ 1) × TokensOf bytes (Err place))
    ⊎ ((tokens : List Token) × TokensOf bytes (Ok tokens) × (rule ≡ 1) × NothingOf L (length bytes) tokens place)
ReadAs L bytes (Err OutOfMemory) = Unit {0}

-- tokens that are a query, with a semicolon or without
abbrev pub QueryTokens : ℕ → List Token → Result Query Refusal → Type 0
QueryTokens end tokens answer = SpelledBy TextOf end tokens answer

-- tokens that are an expression
abbrev pub ExprTokens : ℕ → List Token → Result Expr Refusal → Type 0
ExprTokens end tokens answer = SpelledBy ExprOf end tokens answer

-- the query of a text
abbrev pub QueryText : List ℕ → Result Query Refusal → Type 0
QueryText bytes answer = ReadAs TextOf bytes answer

-- the expression of a body
abbrev pub BodyText : List ℕ → Result Expr Refusal → Type 0
BodyText bytes answer = ReadAs ExprOf bytes answer
