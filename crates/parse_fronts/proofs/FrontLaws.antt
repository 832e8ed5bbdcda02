-- What the reader of expressions answers from a place on is the longest front of the tokens there, or that there is none.
use Rattle.std.proofs.Common.{◌≡◌, ℕ, zero, suc, ◌+◌, ◌-◌, ◌<◌, ◌≤◌, List, [], ◌∷◌, length, drop, length-drop, Some, refl, sym, ◌∙◌, ap, subst, arith}
use Rattle.std.proofs.lemmas.List.{drop-drop}
use Rattle.fronts.specs.Fronts.{Front}
use Rattle.fronts.specs.Readers.{taken, stuck}
use Rattle.fronts.proofs.Agrees.{Answer, Stopped}
use Rattle.fronts.proofs.Lists.{rest_is}
use Rattle.fronts.proofs.Verdict.{part_taken, part_stuck}
use Rattle.sql_ast.specs.declared.expr.Expr.{Expr}
use Rattle.sql_ast.specs.declared.refusal.Refusal.{Refusal}
use Rattle.sql_ast.specs.declared.refusal.Refusal.TheVariants.{Rule, OutOfMemory}
use Rattle.sql_ast.specs.declared.token.Token.{Token}
use Rattle.sql_ast.specs.Grammar.{ExprOf}
use Rattle.sql_lexer.specs.declared.tokens.Tokens.{Tokens}
use Rattle.sql_grammar.specs.Knot.{expr_at}
use Rattle.sql_grammar.proofs.Readings.{expr_reads}
use Rattle.parse_words.specs.Reads.{from, fault_place, turns, Refuses, Stuck}
use Rattle.parse_fronts.specs.ExprFronts.{NoFront}

-- nothing stands behind the last token
pub nothing_past : (ts : List Token) (n : ℕ) → length ts ≤ n → drop n ts ≡ []
nothing_past [] zero up = refl
nothing_past [] (suc n) up = refl
nothing_past (t ∷ ts) zero up = absurd (omega arith)
nothing_past (t ∷ ts) (suc n) up = nothing_past ts n (omega arith)

module _ (text : Tokens) (at : ℕ) where
  pub deep_enough : length (from text at) < turns text
  deep_enough = let e = length-drop at text.list in omega arith

  module _ (within : at ≤ length text.list) where
    pub front_taken : (a : Expr) (end : ℕ) → end ≤ length text.list → expr_at (turns text) (from text at) ≡ taken a (from text end) → Front ExprOf (from text at) (end - at) (Some a)
    front_taken a end up is = (part_taken ExprOf expr_at expr_reads text.list at end within up (turns text) deep_enough a is).1

    -- the same where it ends behind the last token
    pub front_all : (a : Expr) (end : ℕ) → length text.list ≤ end → expr_at (turns text) (from text at) ≡ taken a (from text end) → Front ExprOf (from text at) (length text.list - at) (Some a)
    front_all a end up is =
        front_taken a (length text.list) (omega arith) (is ∙ ap (taken a) (nothing_past text.list end up ∙ sym (nothing_past text.list (length text.list) (omega arith))))

    module _ (rule byte : ℕ) (h : Stuck text (expr_at (turns text) (from text at)) rule byte) where
      stopped : Stopped ExprOf (expr_at (turns text)) (from text at) h.rest
      stopped = subst (Answer (turns text) ExprOf (expr_at (turns text)) (from text at)) h.is ((expr_reads.exact (turns text) (turns text) (omega arith)).near.answers (from text at))

      stop : ℕ
      stop = at + (length (from text at) - length h.rest)

      rest_at : h.rest ≡ from text stop
      unfolding stop
      rest_at = rest_is (from text at) stopped.text h.rest stopped.splits ∙ drop-drop (length (from text at) - length h.rest) at text.list

      low : stop ≤ length text.list
      unfolding stop
      low = let e = length-drop at text.list in omega arith

      pub no_front : NoFront text at byte
      no_front =
          let f = part_stuck ExprOf expr_at expr_reads text.list at stop within low (turns text) deep_enough (h.is ∙ ap stuck rest_at) in
          record { stop = stop; up = f.0; unfinished = f.1; there = h.there ∙ ap (fault_place text.end) rest_at }

    -- what the reader refuses by rule 1
    pub refused_at : (e : Refusal) (rule byte : ℕ) → Refuses text (expr_at (turns text) (from text at)) e → e ≡ Rule rule byte → (rule ≡ 1) × NoFront text at byte
    refused_at (Rule r b) rule byte h e =
        let first : r ≡ rule = cc in
        let second : b ≡ byte = cc in
        (sym first ∙ h.by_rule, subst (NoFront text at) second (no_front r b h))
    refused_at OutOfMemory rule byte h e = absurd cc
