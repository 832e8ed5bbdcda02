-- A type with a level below its first, by what it begins with.
use Rattle.std.proofs.Common.{◌≡◌, ℕ, suc, List, sym, ◌∙◌, ap}
use Rattle.fronts.specs.Readers.{Outcome, next}
use Rattle.sql_ast.specs.declared.token.Token.{Token}
use Rattle.sql_grammar.specs.Classes.{class_of, TypeStart, no_type, type_lexeme}
use Rattle.sql_grammar.specs.Words.{type_at, type_by, starts_type}

pub type_levels : (turns levels k : ℕ) → levels ≡ suc k → (ts : List Token) (x : TypeStart) → x ≡ class_of no_type type_lexeme (next ts)
    → type_at turns levels ts ≡ type_by turns (starts_type k) (type_at turns k) x ts
unfolding type_at
type_levels turns levels k e ts x h = ap (λ n. type_at turns n ts) e ∙ ap (λ y. type_by turns (starts_type k) (type_at turns k) y ts) (sym h)
