-- The expression at the front of the tokens from a place on: as far as it goes, or before a `.` that a `*` follows.
use Rattle.std.specs.Prelude.{◌≡◌, ◌⊎◌, ℕ, ◌+◌, ◌-◌, ◌≤◌, Bool, true, ◌&&◌, nat_eq, List, take, Option, Some, None, Result, Ok, Err}
use Rattle.fronts.specs.Fronts.{Front}
use Rattle.fronts.specs.Readers.{next, comes}
use Rattle.sql_ast.specs.declared.words.Sign.TheVariants as s
use Rattle.sql_ast.specs.declared.expr.Expr.{Expr}
use Rattle.sql_ast.specs.declared.refusal.Refusal.{Refusal}
use Rattle.sql_ast.specs.declared.refusal.Refusal.TheVariants.{Rule, OutOfMemory}
use Rattle.sql_ast.specs.declared.token.Token.{Token}
use Rattle.sql_ast.specs.Grammar.{ExprOf}
use Rattle.sql_ast.specs.Marks.{sign}
use Rattle.sql_lexer.specs.declared.tokens.Tokens.{Tokens}
use Rattle.sql_grammar.specs.Ways.{place_of}
use Rattle.parse_words.specs.Reads.{from, fault_place}

-- a `.` stands at this place, and directly behind it a `*` that begins at this byte
abbrev pub dot_star : Tokens → ℕ → ℕ → Bool
dot_star text at byte = comes (sign s.Dot) (from text at) && (comes (sign s.Star) (from text (at + 1)) && nat_eq (place_of (next (from text (at + 1)))) byte)

-- the tokens from one place to another
abbrev pub part : Tokens → ℕ → ℕ → List Token
part text at end = take (end - at) (from text at)

-- The tokens from a place on spell an expression up to another place, where `.` and a `*` that begins at this byte stand.
pub record BeforeStar (text : Tokens) (at byte : ℕ) (a : Expr) (end : ℕ) : Type 0 where
  pub up : at ≤ end
  pub spells : ExprOf a (part text at end)
  pub star : dot_star text end byte ≡ true

-- The longest front of the tokens from a place on that begins an expression is none, and behind it the first token stands with
-- which no expression begins: the one that begins at this byte, or the end of the tokens.
pub record NoFront (text : Tokens) (at byte : ℕ) : Type 0 where
  pub stop : ℕ
  pub up : at ≤ stop
  pub unfinished : Front ExprOf (from text at) (stop - at) None
  pub there : byte ≡ fault_place text.end (from text stop)

-- What is read from a place on. An expression, which is the longest front that begins one: no token stands behind it, or no
-- expression begins with these tokens and that one. Or where the longest front is none since it stops before a `*` behind a
-- `.`, the expression before the `.`. Else rule 1 is broken at the first token with which no expression begins, or at the end.
abbrev pub ExprFront : Tokens → ℕ → Result (Expr × ℕ) Refusal → Type 0
ExprFront text at (Ok p) =
    (at ≤ p.1) × (Front ExprOf (from text at) (p.1 - at) (Some p.0) ⊎ ((byte : ℕ) × NoFront text at byte × BeforeStar text at byte p.0 p.1))
ExprFront text at (Err (Rule rule byte)) = (rule ≡ 1) × NoFront text at byte × ((a : Expr) (end : ℕ) → BeforeStar text at byte a end → ⊥)
ExprFront text at (Err OutOfMemory) = Unit {0}

-- the expression that the tokens from one place to another spell, if they spell one
abbrev pub PartIs : Tokens → ℕ → ℕ → Result (Option Expr) Refusal → Type 0
PartIs text at end (Ok (Some a)) = ExprOf a (part text at end)
PartIs text at end (Ok None) = (a : Expr) → ExprOf a (part text at end) → ⊥
PartIs text at end (Err e) = e ≡ OutOfMemory

-- the expression before `.` and a `*` that begins at this byte, if there is one
abbrev pub Sought : Tokens → ℕ → ℕ → Result (Option (Expr × ℕ)) Refusal → Type 0
Sought text at byte (Ok (Some p)) = BeforeStar text at byte p.0 p.1
Sought text at byte (Ok None) = (a : Expr) (end : ℕ) → BeforeStar text at byte a end → ⊥
Sought text at byte (Err e) = e ≡ OutOfMemory
