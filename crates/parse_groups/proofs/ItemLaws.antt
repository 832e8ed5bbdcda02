-- A grouping item that begins with a list is the list alone where no token is left, and a longer expression where it goes on.
use Rattle.std.proofs.Common.{◌≡◌, ℕ, zero, suc, ◌<◌, ◌≤◌, ◌-◌, List, [], ◌∷◌, length, take, drop, length-drop, refl, sym, ◌∙◌, ap, arith}
use Rattle.fronts.specs.Readers.{Outcome, taken, noted, and_then}
use Rattle.sql_ast.specs.declared.expr.Expr.{Expr}
use Rattle.sql_ast.specs.declared.grouping.GroupItem.{GroupItem}
use Rattle.sql_ast.specs.declared.grouping.GroupItem.TheVariants as item
use Rattle.sql_ast.specs.declared.token.Token.{Token}
use Rattle.sql_lexer.specs.declared.tokens.Tokens.{Tokens}
use Rattle.sql_grammar.specs.Exprs.{expr_after, grouped, grouped_exprs, held_exprs}
use Rattle.sql_grammar.specs.Queries.{gitem_after}
use Rattle.sql_grammar.proofs.CompleteNothing.{after_nothing}
use Rattle.parse_words.specs.Reads.{from, nested, turns}

past : (ts : List Token) (n : ℕ) → length ts ≤ n → drop n ts ≡ []
past [] zero up = refl
past [] (suc n) up = refl
past (t ∷ ts) zero up = absurd (omega arith)
past (t ∷ ts) (suc n) up = past ts n (omega arith)

-- what an item is made of, by the tokens that were read behind the list
abbrev made : ℕ → List Expr → List Token → Expr → GroupItem Expr
made place list read expr = elim read [ [] ↦ item.List list place | t ∷ ts ↦ item.Expr expr ]

some_read : (place : ℕ) (list : List Expr) (expr : Expr) (ts : List Token) (k : ℕ) → 0 < k → 0 < length ts → made place list (take k ts) expr ≡ item.Expr expr
some_read place list expr [] k up long = absurd (omega arith)
some_read place list expr (t ∷ ts) zero up long = absurd (omega arith)
some_read place list expr (t ∷ ts) (suc k) up long = refl

module _ (text : Tokens) (place : ℕ) (list : List Expr) where
  -- where no token is left
  pub at_the_end : (at : ℕ) → length text.list ≤ at → gitem_after (turns text) (nested text) place (held_exprs list) (from text at) ≡ taken (item.List list place) (from text at)
  at_the_end at up =
      let none : from text at ≡ [] = past text.list at up in
      rw (none, after_nothing (turns text) (nested text) place [] (record { over = omega arith }) (grouped_exprs place list)) refl

  module _ (at end : ℕ) (expr : Expr) (is : expr_after (turns text) (nested text) place (grouped_exprs place list) (from text at) ≡ taken expr (from text end)) where
    whole : gitem_after (turns text) (nested text) place (held_exprs list) (from text at) ≡ taken (made place list (take (length (from text at) - length (from text end)) (from text at)) expr) (from text end)
    whole = rw is refl

    -- where the expression goes on behind the list
    pub goes_on : at < length text.list → at < end → gitem_after (turns text) (nested text) place (held_exprs list) (from text at) ≡ taken (item.Expr expr) (from text end)
    goes_on left up =
        let e = length-drop at text.list in
        let f = length-drop end text.list in
        whole ∙ ap (λ (i : GroupItem Expr). taken i (from text end)) (some_read place list expr (from text at) (length (from text at) - length (from text end)) (omega arith) (omega arith))
