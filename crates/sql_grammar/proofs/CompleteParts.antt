-- What the readers of less depth read, and the parts of expressions in brackets.
use Rattle.std.proofs.Common.{◌≡◌, ℕ, suc, ◌<◌, List, [], ◌∷◌, ◌++◌, length, Option, refl, sym, subst, arith}
use Rattle.std.proofs.lemmas.List.{append_assoc}
use Rattle.fronts.specs.Readers.{taken, ◌>>=◌, many}
use Rattle.fronts.proofs.Agrees.{Many, many_none, many_more, Found}
use Rattle.sql_ast.specs.declared.clauses.LimitPart.{LimitPart}
use Rattle.sql_ast.specs.declared.clauses.Sort.{Sort}
use Rattle.sql_types.specs.declared.kinds.SetKind.{SetKind}
use Rattle.sql_ast.specs.declared.expr.Expr.{Expr}
use Rattle.sql_ast.specs.declared.query.Query.{Query, roll-Query}
use Rattle.sql_ast.specs.declared.query.SetTerm.{SetTerm}
use Rattle.sql_ast.specs.declared.query.Term.{Term}
use Rattle.sql_names.specs.declared.words.Reserved.{Reserved}
use Rattle.sql_names.specs.declared.words.Reserved.TheVariants as r
use Rattle.sql_ast.specs.declared.words.Sign.{Sign}
use Rattle.sql_ast.specs.declared.words.Sign.TheVariants as s
use Rattle.sql_ast.specs.declared.token.Token.{Token}
use Rattle.sql_ast.specs.Marks.{Tokens, Is, reserved, sign}
use Rattle.sql_ast.specs.Parts.{LimitOf}
use Rattle.sql_ast.specs.Grammar.{BasicOf, ExprOf, QueryOf, ListOf, list_is, CommasOf, commas_none, commas_more, SetTermsOf, OrderOf}
use Rattle.sql_grammar.specs.Exprs.{Below, with_read, term_read, after, bracketed, bracketed_query, list_closed, list}
use Rattle.sql_grammar.proofs.Marks.{AfterOf, after_of}
use Rattle.sql_grammar.proofs.Calls.{Bracketed, bracketed_is, Placed, placed_is, Closed, closed_is}
use Rattle.sql_grammar.proofs.Follows.{Over, sign_level}
use Rattle.sql_grammar.proofs.CompleteSteps.{Read, Free, less, tok, also, part, only, done, over_s, after_read, after_begins, over_many, comma_level, many_ahead, Ahead}

-- a query behind its first term, with no CTEs
pub data TermMore (a : Term) (p : ℕ) : Query → Tokens → Type 0 where
  term_more_is : {k : SetKind} {ms : List (SetTerm Term)} {ss : List (Sort Expr)} {l : Option (LimitPart Expr)} {v x y : Tokens} → SetTermsOf k ms v → OrderOf ss x → LimitOf l y
      → TermMore a p (roll-Query (record { ctes = []; body = record { first = a; rest = ms; place = p }; order = ss; limit = l; place = p })) (v ++ (x ++ y))

-- the readers of less depth read each word, where fewer than n tokens are left
pub record Reading (n : ℕ) (b : Below) : Type 0 where
  pub inner : Read n (Over 10) ExprOf b.inner
  pub query : Read n (Over 22) QueryOf b.query
  pub with_more : (t : Token) → Is (reserved r.With) t → Read n (Over 22) (λ q v. QueryOf q (t ∷ v)) (b.more (with_read t))
  pub term_more : (a : Term) (p : ℕ) → Read n (Over 22) (TermMore a p) (b.more (term_read a p))
  -- an expression that goes on behind one that begins with WITH; with what was read, it is shorter than n
  pub rest : (a c : Expr) (t : Token) (u v : Tokens) → Is (reserved r.With) t → BasicOf a (t ∷ u) → ExprOf c ((t ∷ u) ++ v) → (rest : Tokens) → Over 10 rest → length (((t ∷ u) ++ v) ++ rest) < n → b.rest t.start a (v ++ rest) ≡ taken c rest

pub many_commas : (xs : List Expr) (v : Tokens) → CommasOf xs v → Many (AfterOf (sign s.Comma) ExprOf) xs v
many_commas _ _ commas_none = many_none
many_commas _ _ (commas_more {bs = bs} {v = v} i l z) = many_more (after_of i l) (many_commas bs v z)

pub commas_ahead : (xs : List Expr) (v : Tokens) → CommasOf xs v → Ahead 15 v
commas_ahead xs v z = many_ahead {j = 10} {k = 15} (sign s.Comma) comma_level (omega arith) (after_begins (sign s.Comma) ExprOf) xs v (many_commas xs v z)

-- {"," expr} and the sign that closes them, behind those that were found
pub data CommasClosed (close : Sign) (found : List Expr) : List Expr → Tokens → Type 0 where
  commas_closed : {xs : List Expr} {c : Token} {v : Tokens} → CommasOf xs v → Is (sign close) c → CommasClosed close found (found ++ xs) (v ++ (c ∷ []))

module _ (n : ℕ) (b : Below) (x : Reading n b) where
  pub after_read_by : (y : Reserved) → Read (suc n) (Over 10) (AfterOf (reserved y) ExprOf) (after n b (reserved y))
  unfolding after
  after_read_by y = after_read x.inner

  pub comma_expr_read : Read (suc n) (Over 10) (AfterOf (sign s.Comma) ExprOf) (after n b (sign s.Comma))
  unfolding after
  comma_expr_read = after_read x.inner

  pub commas_read : (found : List Expr) → Read (suc n) (Over 15) (Found CommasOf found) (many (sign s.Comma) (after n b (sign s.Comma)) n found)
  commas_read found = over_many (sign s.Comma) comma_level (omega arith) (after_begins (sign s.Comma) ExprOf) comma_expr_read found many_commas

  -- behind an expression: what may follow it in a list that a sign closes
  pub closed_over : (close : Sign) → sign_level close ≡ 100 → (xs : List Expr) (v : Tokens) → CommasOf xs v → (c : Token) → Is (sign close) c → (rest : Tokens) → Over 10 ((v ++ (c ∷ [])) ++ rest)
  closed_over close e xs v z c ic rest = subst (Over 10) (sym (append_assoc v (c ∷ []) rest)) ((commas_ahead xs v z).ahead 10 (c ∷ rest) (omega arith) (over_s close ic (let g = e in omega arith)))

  pub list_closed_read : (close : Sign) → sign_level close ≡ 100 → (found : List Expr) → Read (suc n) Free (CommasClosed close found) (list_closed n b close found)
  unfolding list_closed
  list_closed_read close e found = record { reads = by }
    where
      by : {a : List Expr} {u : Tokens} → CommasClosed close found a u → (rest : Tokens) → Unit {0} → length (u ++ rest) < suc n → list_closed n b close found (u ++ rest) ≡ taken a rest
      by (commas_closed {xs = xs} {c = c} {v = v} z ic) rest f = part (commas_read found) (xs, z, refl) (c ∷ []) rest _ (over_s close ic (let g = e in omega arith)) (also ic _ done)

  -- expr {"," expr} and the sign that closes them
  pub all_closed_read : (close : Sign) → sign_level close ≡ 100 → Read n Free (Closed close ListOf) (b.inner >>= (λ a. list_closed n b close (a ∷ [])))
  all_closed_read close e = record { reads = by }
    where
      by : {a : List Expr} {u : Tokens} → Closed close ListOf a u → (rest : Tokens) → Unit {0} → length (u ++ rest) < n → (b.inner >>= (λ a. list_closed n b close (a ∷ []))) (u ++ rest) ≡ taken a rest
      by (closed_is {c = c} (list_is {a = a} {bs = bs} {u = u} {v = v} l z) ic) rest f =
          subst (λ (w : Tokens). length (w ++ rest) < n → (b.inner >>= (λ a. list_closed n b close (a ∷ []))) (w ++ rest) ≡ taken (a ∷ bs) rest) (sym (append_assoc u v (c ∷ [])))
          (part x.inner l (v ++ (c ∷ [])) rest (λ a. list_closed n b close (a ∷ [])) (closed_over close e bs v z c ic rest) (only (less (list_closed_read close e (a ∷ []))) (commas_closed z ic) tt))

  pub list_read : Read (suc n) Free (Bracketed ListOf) (list n b)
  unfolding list
  list_read = record { reads = by }
    where
      by : {a : List Expr} {u : Tokens} → Bracketed ListOf a u → (rest : Tokens) → Unit {0} → length (u ++ rest) < suc n → list n b (u ++ rest) ≡ taken a rest
      by (bracketed_is io l ic) rest f = tok io _ (only (all_closed_read s.CloseRound refl) (closed_is l ic) tt)

  pub bracketed_read : Read (suc n) Free (Bracketed ExprOf) (bracketed n b)
  unfolding bracketed
  bracketed_read = record { reads = by }
    where
      by : {a : Expr} {u : Tokens} → Bracketed ExprOf a u → (rest : Tokens) → Unit {0} → length (u ++ rest) < suc n → bracketed n b (u ++ rest) ≡ taken a rest
      by (bracketed_is {c = c} io l ic) rest f = tok io _ (part x.inner l (c ∷ []) rest _ (over_s s.CloseRound ic (omega arith)) (also ic _ done))

  pub bracketed_query_read : Read (suc n) Free (Placed QueryOf) (bracketed_query n b)
  unfolding bracketed_query
  bracketed_query_read = record { reads = by }
    where
      by : {a : Query × ℕ} {u : Tokens} → Placed QueryOf a u → (rest : Tokens) → Unit {0} → length (u ++ rest) < suc n → bracketed_query n b (u ++ rest) ≡ taken a rest
      by (placed_is {c = c} io l ic) rest f = tok io _ (part x.query l (c ∷ []) rest _ (over_s s.CloseRound ic (omega arith)) (also ic _ done))
