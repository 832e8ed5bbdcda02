-- The print of LIMIT is a run of tokens that are read back.
use Rattle.std.proofs.Common.{◌≡◌, ℕ, true, ◌∷◌, Option, refl}
use Rattle.sql_names.specs.declared.words.Reserved.TheVariants as r
use Rattle.sql_ast.specs.declared.words.Word.TheVariants as w
use Rattle.sql_ast.specs.declared.token.Token.{Token}
use Rattle.sql_ast.specs.declared.token.Lexeme.{Lexeme}
use Rattle.sql_ast.specs.declared.token.Lexeme.TheVariants as l
use Rattle.sql_ast.specs.declared.clauses.LimitPart.{LimitPart}
use Rattle.sql_ast.specs.declared.expr.Expr.{Expr}
use Rattle.sql_ast.specs.declared.expr.Expr.TheVariants as e
use Rattle.sql_ast.specs.Marks.{Tokens, Is}
use Rattle.sql_ast.specs.Parts.{counts, count_lexeme, count_by, count_at, OffsetOf, offset_none, offset_is, LimitOf, limit_none, limit_is}
use Rattle.sql_ast.specs.Pieces.{read_word, if_there}
use Rattle.sql_print.specs.PartPieces.{limit_pieces}
use Rattle.sql_print.specs.TreePieces.{expr_pieces}
use Rattle.sql_print.proofs.Flows.{Good, Goods, hd, tl, Flow, flow_none, beside, single}
use Rattle.sql_print.proofs.FlowParts.{a_word, a_read}
use Rattle.sql_print.proofs.FlowWords.{never}
use Rattle.sql_print.proofs.FlowNodes.{as_expr}

count_flow : (y : Lexeme) (p : ℕ) → count_lexeme y ≡ true → Good y → Flow (expr_pieces (count_by p y))
count_flow (l.Integer n) p h g = as_expr _ _ (e.outs-Integer n p) (single (g, tt) refl refl)
count_flow (l.Parameter n) p h g = as_expr _ _ (e.outs-Parameter n p) (single (g, tt) refl refl)
count_flow _ p h g = never h

a_count : (x : Token) → Is counts x → Good x.lexeme → Flow (expr_pieces (count_at x))
unfolding count_at
a_count x i g = count_flow x.lexeme x.start i.is g

flow_offset : (o : Option Expr) (u : Tokens) → OffsetOf o u → Goods u → Flow (if_there (λ a. read_word w.Offset ∷ expr_pieces a) o)
flow_offset _ _ offset_none g = flow_none
flow_offset _ _ (offset_is {x = x} i j) g = beside (a_read w.Offset) (a_count x j (hd (tl g)))

pub flow_limit : (k : Option (LimitPart Expr)) (u : Tokens) → LimitOf k u → Goods u → Flow (if_there (limit_pieces expr_pieces) k)
flow_limit _ _ limit_none g = flow_none
flow_limit _ _ (limit_is {x = x} i j z) g = beside (a_word r.Limit) (beside (a_count x j (hd (tl g))) (flow_offset _ _ z (tl (tl g))))
