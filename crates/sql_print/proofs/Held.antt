-- Tokens of a text that are fewer than a number, and what brackets hold, given for all such tokens: its print is read back.
use Rattle.std.proofs.Common.{ℕ, suc, ◌<◌, ◌∷◌, ◌++◌, length, arith}
use Rattle.std.proofs.lemmas.List.{length-append}
use Rattle.sql_ast.specs.declared.token.Token.{Token}
use Rattle.sql_ast.specs.declared.expr.Expr.{Expr}
use Rattle.sql_ast.specs.declared.query.Query.{Query}
use Rattle.sql_ast.specs.Marks.{Tokens}
use Rattle.sql_ast.specs.Grammar.{ExprOf, PostfixOf, QueryOf}
use Rattle.sql_ast.specs.Canon.{canon_pieces}
use Rattle.sql_print.specs.TreePieces.{expr_pieces}
use Rattle.sql_print.proofs.Flows.{Good, Goods, Flow, hd as good_head, tl as good_tail, fr as good_front, bk as good_back}

pub record Held (n : ℕ) (u : Tokens) : Type 0 where
  pub goods : Goods u
  pub short : length u < n

pub hd : {n : ℕ} {t : Token} {u : Tokens} → Held n (t ∷ u) → Good t.lexeme
hd g = good_head g.goods

pub tl : {n : ℕ} {t : Token} {u : Tokens} → Held n (t ∷ u) → Held n u
tl {n} {t} {u} g = let h = g.short in record { goods = good_tail g.goods; short = omega arith }

-- what stands behind a token has fewer
pub inside : {n : ℕ} {t : Token} {u : Tokens} → Held (suc n) (t ∷ u) → Held n u
inside {n} {t} {u} g = let h = g.short in record { goods = good_tail g.goods; short = omega arith }

pub wider : {n : ℕ} {u : Tokens} → Held n u → Held (suc n) u
wider {n} {u} g = let h = g.short in record { goods = g.goods; short = omega arith }

pub fr : {n : ℕ} {u : Tokens} (v : Tokens) → Held n (u ++ v) → Held n u
fr {n} {u} v g = let h = g.short in let long = length-append u v in record { goods = good_front v g.goods; short = omega arith }

pub bk : {n : ℕ} {v : Tokens} (u : Tokens) → Held n (u ++ v) → Held n v
bk {n} {v} u g = let h = g.short in let long = length-append u v in record { goods = good_back u g.goods; short = omega arith }

pub record Inner (n : ℕ) : Type 0 where
  pub expr : (a : Expr) (u : Tokens) → ExprOf a u → Held n u → Flow (expr_pieces a)
  pub postfix : (a : Expr) (u : Tokens) → PostfixOf a u → Held n u → Flow (expr_pieces a)
  pub query : (q : Query) (u : Tokens) → QueryOf q u → Held n u → Flow (canon_pieces q)
