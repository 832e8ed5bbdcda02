-- Which ends before `.*` a search has passed.
use Rattle.std.proofs.Common.{◌≡◌, ◌⊎◌, inl, inr, ℕ, zero, suc, ◌+◌, ◌≤◌, Bool, true, false, ◌&&◌, nat_eq, length, refl, sym, ap, subst, arith}
use Rattle.fronts.specs.Readers.{next, comes}
use Rattle.sql_ast.specs.declared.words.Sign.TheVariants as s
use Rattle.sql_ast.specs.declared.expr.Expr.{Expr}
use Rattle.sql_ast.specs.Grammar.{ExprOf}
use Rattle.sql_ast.specs.Marks.{sign}
use Rattle.sql_lexer.specs.declared.tokens.Tokens.{Tokens}
use Rattle.sql_grammar.specs.Ways.{place_of}
use Rattle.parse_words.specs.Reads.{from}
use Rattle.parse_fronts.specs.ExprFronts.{dot_star, part, BeforeStar}
use Rattle.parse_fronts.proofs.FrontLaws.{nothing_past}

not_both : (a b : Bool) → a ≡ false → (a && b) ≡ true → ⊥
not_both true b e h = cc
not_both false b e h = cc

pub no_star : (text : Tokens) (at byte : ℕ) → length text.list ≤ at → dot_star text at byte ≡ true → ⊥
no_star text at byte up h =
    not_both (comes (sign s.Dot) (from text at)) (comes (sign s.Star) (from text (at + 1)) && nat_eq (place_of (next (from text (at + 1)))) byte)
    (ap (comes (sign s.Dot)) (nothing_past text.list at up)) h

here_or_later : (m n : ℕ) → m ≤ n → (m ≡ n) ⊎ (m + 1 ≤ n)
here_or_later zero zero up = inl refl
here_or_later zero (suc n) up = inr (omega arith)
here_or_later (suc m) zero up = absurd (omega arith)
here_or_later (suc m) (suc n) up = elim (here_or_later m n (omega arith)) [ inl e ↦ inl (ap suc e) | inr le ↦ inr (omega arith) ]

module _ (text : Tokens) (at byte : ℕ) where
  -- each expression before such a `.` ends there or behind
  abbrev pub Ahead : ℕ → Type 0
  Ahead dot = (a : Expr) (end : ℕ) → BeforeStar text at byte a end → dot ≤ end

  module _ (dot : ℕ) (ahead : Ahead dot) where
    past : ((a : Expr) → BeforeStar text at byte a dot → ⊥) → Ahead (dot + 1)
    past none a end b = elim (here_or_later dot end (ahead a end b)) [
      | inl e ↦ absurd (none a (subst (λ (n : ℕ). BeforeStar text at byte a n) (sym e) b))
      | inr le ↦ le
    ]

    pub past_unstarred : dot_star text dot byte ≡ false → Ahead (dot + 1)
    past_unstarred h = past (λ a b. let s = b.star in cc)

    pub past_unspelled : ((a : Expr) → ExprOf a (part text at dot) → ⊥) → Ahead (dot + 1)
    past_unspelled none = past (λ a b. none a b.spells)

    pub passed_all : length text.list ≤ dot → (a : Expr) (end : ℕ) → BeforeStar text at byte a end → ⊥
    passed_all up a end b = no_star text end byte (let g = ahead a end b in omega arith) b.star
