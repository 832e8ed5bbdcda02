-- What was read is spelled by the tokens that it was read from, since the readers of less depth are exact.
use Rattle.std.proofs.Common.{◌≡◌, ℕ, suc, Bool, true, false, cond, List, [], ◌∷◌, ◌++◌, length, Some, refl, sym, ap, subst, arith}
use Rattle.fronts.specs.Fronts.{Language}
use Rattle.fronts.specs.Readers.{taken, stuck, token}
use Rattle.fronts.proofs.Agrees.{Answer, Took}
use Rattle.fronts.proofs.Exact.{Exact}
use Rattle.sql_names.specs.declared.words.Reserved.TheVariants as r
use Rattle.sql_ast.specs.declared.expr.Expr.{Expr}
use Rattle.sql_ast.specs.declared.expr.Expr.TheVariants as e
use Rattle.sql_ast.specs.declared.expr.Expr.TheViews.{outs-Scalar}
use Rattle.sql_ast.specs.declared.query.Query.{Query}
use Rattle.sql_ast.specs.declared.query.Term.TheVariants as term
use Rattle.sql_ast.specs.declared.token.Token.{Token}
use Rattle.sql_ast.specs.Grammar.{BasicOf, ExprOf, TermOf}
use Rattle.sql_ast.specs.Marks.{Is, reserved, start_of}
use Rattle.sql_lexer.specs.declared.tokens.Tokens.{Tokens}
use Rattle.sql_grammar.specs.Ways.{Parser}
use Rattle.sql_grammar.specs.Exprs.{opening_layer, opening_of, term_read, with_body}
use Rattle.sql_grammar.proofs.Basics.{with_body_exact}
use Rattle.sql_grammar.proofs.Calls.{Under}
use Rattle.sql_grammar.proofs.Knot.{under}
use Rattle.sql_grammar.proofs.Subqueries.{expr_term}
use Rattle.parse_expr.specs.declared.starts.Opening.TheVariants as opening
use Rattle.parse_expr.specs.Nests.{HasBegun, HasOpened, HasText}
use Rattle.parse_words.specs.Reads.{nested, turns}

-- what an exact reader has read is a word of its language
pub text_of : {A : Type 0} (n : ℕ) (L : Language Token A) (p : Parser A) → Exact n L p p → (ts rest : List Token) (a : A) → p ts ≡ taken a rest → (u : List Token) × L a u
text_of n L p x ts rest a e = let k : Took L p ts a rest = subst (Answer n L p ts) e (x.near.answers ts) in (k.text, k.spells)

-- a token that was taken fits
pub token_fits : (fits : Token → Bool) (ts rest : List Token) (t : Token) → token fits ts ≡ taken t rest → Is fits t
unfolding token
token_fits fits [] rest t e = absurd cc
token_fits fits (x ∷ ts) rest t e = by (fits x) refl e
  where
    by : (b : Bool) → fits x ≡ b → cond b (taken x ts) (stuck (x ∷ ts)) ≡ taken t rest → Is fits t
    by true h e = let same : x ≡ t = cc in record { is = subst (λ (y : Token). fits y ≡ true) same h }
    by false h e = absurd cc

module _ (text : Tokens) where
  exact : Under (turns text) (nested text) (nested text)
  exact = under (turns text) (turns text) (omega arith)

  pub inner_expr : (ts rest : List Token) (a : Expr) → (nested text).inner ts ≡ taken a rest → HasText a
  inner_expr ts rest a e = text_of (turns text) ExprOf (nested text).inner exact.inner ts rest a e

  pub rest_expr : (p : ℕ) (b : Expr) → HasBegun p b → (ts rest : List Token) (a : Expr) → (nested text).rest p b ts ≡ taken a rest → HasText a
  rest_expr p b (u, l, h) ts rest a e =
      let g = text_of (turns text) (λ c v. ExprOf c (u ++ v)) ((nested text).rest p b) (exact.rest p b u l h) ts rest a e in
      (u ++ g.0, g.1)

  pub with_basic : (t : Token) → Is (reserved r.With) t → (ts rest : List Token) (a : Expr) → with_body (turns text) (nested text) t.start ts ≡ taken a rest → HasBegun t.start a
  with_basic t it ts rest a e =
      let x = with_body_exact (turns text) (turns text) (omega arith) (nested text) (nested text) exact t it in
      let g = text_of (suc (turns text)) (λ c v. BasicOf c (t ∷ v)) (with_body (turns text) (nested text) t.start) x ts rest a e in
      (t ∷ g.0, g.1, refl)

-- a query in brackets that is an expression is a term
pub scalar_term : (q : Query) (p : ℕ) → HasText (e.Scalar q p) → HasOpened (opening.Term (term.Query q p) p)
unfolding opening_of
scalar_term q p (u, l) =
    let is : opening_of (e.Scalar q p) ≡ Some (term_read (term.Query q p) p) = ap opening_layer (outs-Scalar q p) in
    let g = expr_term (e.Scalar q p) u l (term_read (term.Query q p) p) is in
    let same : (g.term ≡ term.Query q p) × (g.place ≡ p) = (cc, cc) in
    (u, subst (λ (t : _). TermOf t u) same.0 g.spells, subst (λ (n : ℕ). n ≡ start_of u) same.1 g.here)
