-- One depth more changes no answer, since all depths that are enough answer the same.
use Rattle.std.proofs.Common.{◌≡◌, ℕ, zero, suc, ◌<◌, ◌≤◌, List, ◌∷◌, ◌++◌, length, drop, length-drop, Result, refl, sym, ◌∙◌, ap, subst, arith}
use Rattle.fronts.specs.Fronts.{Language}
use Rattle.fronts.specs.Readers.{Outcome, taken, stuck, deep}
use Rattle.fronts.proofs.Agrees.{Answer}
use Rattle.fronts.proofs.Exact.{Exact}
use Rattle.sql_ast.specs.declared.expr.Expr.{Expr}
use Rattle.sql_ast.specs.declared.query.Query.{Query}
use Rattle.sql_ast.specs.declared.refusal.Refusal.{Refusal}
use Rattle.sql_ast.specs.declared.token.Token.{Token}
use Rattle.sql_ast.specs.Grammar.{ExprOf, QueryOf}
use Rattle.sql_lexer.specs.declared.tokens.Tokens.{Tokens}
use Rattle.sql_grammar.specs.Ways.{Parser}
use Rattle.sql_grammar.specs.Exprs.{disjunction, expr_after}
use Rattle.sql_grammar.specs.Knot.{below}
use Rattle.sql_grammar.proofs.Calls.{Under}
use Rattle.sql_grammar.proofs.Knot.{under}
use Rattle.parse_expr.specs.declared.starts.Opening.{Opening}
use Rattle.parse_expr.specs.declared.starts.Opening.TheVariants as opening
use Rattle.parse_expr.specs.declared.starts.Start.{Start}
use Rattle.parse_expr.specs.declared.starts.Start.TheVariants as start
use Rattle.parse_expr.specs.Nests.{HasBegun, HasStarted, HasOpened, started, opened}
use Rattle.parse_query.specs.Asked.{asked, asked_expr}
use Rattle.parse_words.specs.Reads.{from, nested, turns, Reads}

same_answer : {A : Type 0} (n : ℕ) (L : Language Token A) (p q : Parser A) → Exact n L p q → (ts : List Token) → length ts < n → q ts ≡ p ts
same_answer n L p q x ts lt = by (p ts) refl (x.near.answers ts)
  where
    by : (o : Outcome Token _) → p ts ≡ o → Answer n L q ts o → q ts ≡ p ts
    by (taken a rest) e h = ap q h.splits ∙ h.stays rest refl ∙ sym e
    by (stuck rest) e h = ap q h.splits ∙ h.stays rest refl ∙ sym e
    by deep e h = absurd (omega arith)

module _ (text : Tokens) where
  deeper : Under (turns text) (nested text) (below (suc (turns text)))
  deeper = under (turns text) (suc (turns text)) (omega arith)

  short : (at : ℕ) → length (from text at) < turns text
  short at = let e = length-drop at text.list in omega arith

  expr_same : (s : Start) → HasStarted s → (at : ℕ) → asked_expr (turns text) (nested text) s (from text at) ≡ started (nested text) s (from text at)
  unfolding below
  expr_same start.Fresh h at = same_answer (turns text) ExprOf _ _ deeper.inner (from text at) (short at)
  expr_same (start.Behind place a) (u, l, h) at = same_answer (turns text) (λ c v. ExprOf c (u ++ v)) _ _ (deeper.rest place a u l h) (from text at) (short at)

  query_same : (o : Opening) → HasOpened o → (at : ℕ) → asked (turns text) (nested text) o (from text at) ≡ opened (nested text) o (from text at)
  unfolding below
  query_same opening.Fresh h at = same_answer (turns text) QueryOf _ _ deeper.query (from text at) (short at)
  query_same (opening.With t) h at = same_answer (turns text) (λ q v. QueryOf q (t ∷ v)) _ _ (deeper.with_more t h) (from text at) (short at)
  query_same (opening.Term a place) (u, l, h) at = same_answer (turns text) (λ q v. QueryOf q (u ++ v)) _ _ (deeper.term_more a place u l h) (from text at) (short at)

  pub expr_read : (s : Start) → HasStarted s → (at : ℕ) (r : Result (Expr × ℕ) Refusal) → Reads text (asked_expr (turns text) (nested text) s (from text at)) r → Reads text (started (nested text) s (from text at)) r
  expr_read s h at r x = subst (λ (o : Outcome Token Expr). Reads text o r) (expr_same s h at) x

  pub query_read : (o : Opening) → HasOpened o → (at : ℕ) (r : Result (Query × ℕ) Refusal) → Reads text (asked (turns text) (nested text) o (from text at)) r → Reads text (opened (nested text) o (from text at)) r
  query_read o h at r x = subst (λ (i : Outcome Token Query). Reads text i r) (query_same o h at) x
