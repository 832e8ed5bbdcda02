-- The functions that read what stands deeper in a text.
use Rattle.std.specs.Prelude.{◌≡◌, ℕ, ◌<◌, ◌≤◌, Result, IfOk}
use Rattle.sql_names.specs.declared.words.Reserved.TheVariants as r
use Rattle.sql_ast.specs.declared.expr.Expr.{Expr}
use Rattle.sql_ast.specs.declared.query.Query.{Query}
use Rattle.sql_ast.specs.declared.refusal.Refusal.{Refusal}
use Rattle.sql_ast.specs.Grammar.{BasicOf, ExprOf, TermOf}
use Rattle.sql_ast.specs.Marks as marks
use Rattle.sql_lexer.specs.declared.tokens.Tokens.{Tokens}
use Rattle.sql_grammar.specs.Ways.{Parser}
use Rattle.sql_grammar.specs.Exprs as g
use Rattle.sql_grammar.specs.Exprs.{Below}
use Rattle.parse_expr.specs.declared.starts.Start.{Start}
use Rattle.parse_expr.specs.declared.starts.Start.TheVariants as start
use Rattle.parse_expr.specs.declared.starts.Opening.{Opening}
use Rattle.parse_expr.specs.declared.starts.Opening.TheVariants as opening
use Rattle.parse_expr.specs.declared.starts.Held.{Held}
use Rattle.parse_expr.specs.declared.starts.Held.TheVariants as held
use Rattle.parse_words.specs.Reads.{from, nested, Reads}

-- an expression from its first token on, or behind a basic expression that it begins with
abbrev pub started : Below → Start → Parser Expr
started b start.Fresh = b.inner
started b (start.Behind place a) = b.rest place a

-- a query from its first token on, or behind what was read of it
abbrev pub opened : Below → Opening → Parser Query
opened b opening.Fresh = b.query
opened b (opening.With t) = b.more (g.with_read t)
opened b (opening.Term a place) = b.more (g.term_read a place)

-- what parentheses hold
abbrev pub content : Held → g.Held
content (held.Query q) = g.held_query q
content (held.Exprs xs) = g.held_exprs xs

-- an expression that some tokens spell
abbrev pub HasText : Expr → Type 0
HasText a = (u : marks.Tokens) × ExprOf a u

-- a basic expression that some tokens spell, the first of which begins at this byte
abbrev pub HasBegun : ℕ → Expr → Type 0
HasBegun place a = (u : marks.Tokens) × BasicOf a u × (place ≡ marks.start_of u)

abbrev pub HasStarted : Start → Type 0
HasStarted start.Fresh = Unit {0}
HasStarted (start.Behind place a) = HasBegun place a

-- the word WITH, or a term that some tokens spell, the first of which begins at this byte
abbrev pub HasOpened : Opening → Type 0
HasOpened opening.Fresh = Unit {0}
HasOpened (opening.With t) = marks.Is (marks.reserved r.With) t
HasOpened (opening.Term a place) = (u : marks.Tokens) × TermOf a u × (place ≡ marks.start_of u)

-- a function that reads expressions and one that reads queries, from each token behind one
pub record Nests (text : Tokens) (first : ℕ)
    (pre : ℕ → Start → Type 0) (post : ℕ → Start → Result (Expr × ℕ) Refusal → Type 0)
    (query_pre : ℕ → Opening → Type 0) (query_post : ℕ → Opening → Result (Query × ℕ) Refusal → Type 0) : Type 0 where
  pub callable : (at : ℕ) (s : Start) → first < at → HasStarted s → pre at s
  pub reads : (at : ℕ) (s : Start) (r : Result (Expr × ℕ) Refusal) → first < at → HasStarted s → post at s r → Reads text (started (nested text) s (from text at)) r
  pub moves : (at : ℕ) (s : Start) (r : Result (Expr × ℕ) Refusal) → first < at → HasStarted s → post at s r → IfOk r (λ p. at ≤ p.1)
  pub query_callable : (at : ℕ) (o : Opening) → first < at → HasOpened o → query_pre at o
  pub query_reads : (at : ℕ) (o : Opening) (r : Result (Query × ℕ) Refusal) → first < at → HasOpened o → query_post at o r → Reads text (opened (nested text) o (from text at)) r
  pub query_moves : (at : ℕ) (o : Opening) (r : Result (Query × ℕ) Refusal) → first < at → HasOpened o → query_post at o r → IfOk r (λ p. at ≤ p.1)
