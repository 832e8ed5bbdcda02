-- What a function that reads from a place of a text has read.
use Rattle.std.specs.Prelude.{◌≡◌, ℕ, suc, ◌+◌, ◌-◌, Bool, List, [], ◌∷◌, length, take, drop, Option, Some, None, Result, Ok, Err}
use denote.Ref.{Bor}
use Rattle.fronts.specs.Readers.{Outcome, taken, stuck}
use Rattle.sql_ast.specs.declared.token.Token.{Token}
use Rattle.sql_ast.specs.declared.refusal.Refusal.{Refusal}
use Rattle.sql_ast.specs.declared.refusal.Refusal.TheVariants.{Rule, OutOfMemory}
use Rattle.sql_lexer.specs.declared.tokens.Tokens.{Tokens}
use Rattle.sql_grammar.specs.Exprs.{Below}
use Rattle.sql_grammar.specs.Knot.{below}

-- the tokens from a place on
abbrev pub from : Tokens → ℕ → List Token
from text at = drop at text.list

-- the tokens from one place to another
abbrev pub between : Tokens → ℕ → ℕ → List Token
between text first last = take (length (from text first) - length (from text last)) (from text first)

-- the token at a place is this one, or none stands there
abbrev pub Stands : Tokens → ℕ → Option (Bor Token) → Type 0
Stands text at None = from text at ≡ []
Stands text at (Some t) = from text at ≡ t.now ∷ from text (at + 1)

-- where a token that fits nothing begins: the first of these, or the end of the text where none is left
abbrev pub fault_place : ℕ → List Token → ℕ
fault_place last [] = last
fault_place last (t ∷ ts) = t.start

-- The outcome is stuck, and rule 1 is broken at the token at which it is.
pub record Stuck {A : Type 0} (text : Tokens) (outcome : Outcome Token A) (rule place : ℕ) : Type 0 where
  pub rest : List Token
  pub is : outcome ≡ stuck rest
  pub by_rule : rule ≡ 1
  pub there : place ≡ fault_place text.end rest

-- the refusal of an outcome; memory may be wanting at any time
abbrev pub Refuses : {A : Type 0} → Tokens → Outcome Token A → Refusal → Type 0
Refuses text outcome (Rule rule place) = Stuck text outcome rule place
Refuses text outcome OutOfMemory = Unit {0}

-- What was read, and the place of the next token, are the outcome of a reader.
abbrev pub Reads : {A : Type 0} → Tokens → Outcome Token A → Result (A × ℕ) Refusal → Type 0
Reads text outcome (Ok p) = outcome ≡ taken p.0 (from text p.1)
Reads text outcome (Err e) = Refuses text outcome e

-- the same, where the code holds what was read in a form of its own
abbrev pub ReadsAs : {A B : Type 0} → (B → A) → Tokens → Outcome Token A → Result (B × ℕ) Refusal → Type 0
ReadsAs shown text outcome (Ok p) = outcome ≡ taken (shown p.0) (from text p.1)
ReadsAs shown text outcome (Err e) = Refuses text outcome e

-- the same for one token
abbrev pub Takes : Tokens → Outcome Token Token → Result (Bor Token × ℕ) Refusal → Type 0
Takes text outcome (Ok p) = outcome ≡ taken p.0.now (from text p.1)
Takes text outcome (Err e) = Refuses text outcome e

-- as many turns as all these tokens may need, and the readers of as much depth
abbrev pub turns : Tokens → ℕ
turns text = suc (length text.list)

abbrev pub nested : Tokens → Below
nested text = below (suc (length text.list))

abbrev pub reading : {X : Type 0} → Tokens → (ℕ → Below → X) → X
reading text reader = reader (turns text) (nested text)
