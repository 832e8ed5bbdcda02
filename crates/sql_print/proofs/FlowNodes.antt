-- A tree's print is a run of tokens that are read back where the print of its node is; and operands, in brackets or not, and chains of them.
use Rattle.std.proofs.Common.{◌≡◌, ℕ, nat_lt, Bool, true, false, if◌then◌else◌, List, [], ◌∷◌, ◌++◌, sym, ◌∙◌, ap, subst}
use Rattle.sql_ast.specs.declared.expr.Expr.{Expr, out-Expr}
use Rattle.sql_ast.specs.declared.expr.Expr.TheOpen.{Expr-F, Primary-F, Term-F, FromItem-F, Joined-F, Query-F, Select-F}
use Rattle.sql_ast.specs.declared.expr.Link.{Link}
use Rattle.sql_ast.specs.declared.expr.Operator.{Operator}
use Rattle.sql_ast.specs.declared.query.FromItem.{FromItem, out-FromItem}
use Rattle.sql_ast.specs.declared.query.Joined.{Joined, out-Joined}
use Rattle.sql_ast.specs.declared.query.Primary.{Primary, out-Primary}
use Rattle.sql_ast.specs.declared.query.Query.{Query, out-Query}
use Rattle.sql_ast.specs.declared.query.Select.{Select, out-Select}
use Rattle.sql_ast.specs.declared.query.Term.{Term, out-Term}
use Rattle.sql_ast.specs.Trees.{chain}
use Rattle.sql_ast.specs.Pieces.{Piece, bracketed}
use Rattle.sql_ast.specs.Canon.{operator_pieces, canon_pieces}
use Rattle.sql_print.specs.PartPieces.{run, operand, link_pieces}
use Rattle.sql_print.specs.TreePieces.{expr_level, expr_pieces, primary_pieces, term_pieces, from_pieces, joined_pieces, select_pieces}
use Rattle.sql_print.proofs.CanonFroms.{primary_at, from_at, joined_at}
use Rattle.sql_print.proofs.CanonLaws.{pieces_at, pieces_expr, print_primary, term_at, print_term, print_from, print_joined, select_at, print_select, query_at, print_query}
use Rattle.sql_print.proofs.Flows.{Flow, beside}
use Rattle.sql_print.proofs.FlowParts.{in_brackets}
use Rattle.sql_print.proofs.FlowWords.{flow_operator}

-- ---- one node

pub as_expr : (a : Expr) (z : Expr-F Expr Primary Term FromItem Joined Query Select) → out-Expr a ≡ z → Flow (pieces_at z) → Flow (expr_pieces a)
as_expr a z is x = subst Flow (sym (pieces_expr a ∙ ap pieces_at is)) x

pub as_query : (a : Query) (z : Query-F Expr Primary Term FromItem Joined Query Select) → out-Query a ≡ z → Flow (query_at z) → Flow (canon_pieces a)
as_query a z is x = subst Flow (sym (print_query a ∙ ap query_at is)) x

pub as_term : (a : Term) (z : Term-F Expr Primary Term FromItem Joined Query Select) → out-Term a ≡ z → Flow (term_at z) → Flow (term_pieces a)
as_term a z is x = subst Flow (sym (print_term a ∙ ap term_at is)) x

pub as_select : (a : Select) (z : Select-F Expr Primary Term FromItem Joined Query Select) → out-Select a ≡ z → Flow (select_at z) → Flow (select_pieces a)
as_select a z is x = subst Flow (sym (print_select a ∙ ap select_at is)) x

pub as_from : (a : FromItem) (z : FromItem-F Expr Primary Term FromItem Joined Query Select) → out-FromItem a ≡ z → Flow (from_at z) → Flow (from_pieces a)
as_from a z is x = subst Flow (sym (print_from a ∙ ap from_at is)) x

pub as_joined : (a : Joined) (z : Joined-F Expr Primary Term FromItem Joined Query Select) → out-Joined a ≡ z → Flow (joined_at z) → Flow (joined_pieces a)
as_joined a z is x = subst Flow (sym (print_joined a ∙ ap joined_at is)) x

pub as_primary : (a : Primary) (z : Primary-F Expr Primary Term FromItem Joined Query Select) → out-Primary a ≡ z → Flow (primary_at z) → Flow (primary_pieces a)
as_primary a z is x = subst Flow (sym (print_primary a ∙ ap primary_at is)) x

-- ---- operands and chains

in_place : (t : Bool) (ps : List Piece) → Flow ps → Flow (if t then bracketed ps else ps)
in_place true ps x = in_brackets x
in_place false ps x = x

pub op : (k : ℕ) (a : Expr) → Flow (expr_pieces a) → Flow (operand expr_level expr_pieces k a)
op k a x = in_place (nat_lt (expr_level a) k) (expr_pieces a) x

pub chained : (k : ℕ) (make : Expr → List (Link Expr) → ℕ → Expr) → ((a : Expr) (ls : List (Link Expr)) (p : ℕ) → expr_pieces (make a ls p) ≡ operand expr_level expr_pieces k a ++ run (link_pieces expr_level expr_pieces k) ls)
    → (a : Expr) (ls : List (Link Expr)) (p : ℕ) → Flow (expr_pieces a) → Flow (run (link_pieces expr_level expr_pieces k) ls) → Flow (expr_pieces (chain make a ls p))
unfolding chain
chained k make prints a [] p x y = x
chained k make prints a (l ∷ ls) p x y = subst Flow (sym (prints a (l ∷ ls) p)) (beside (op k a x) y)

pub linked : (k : ℕ) (o : Operator) (a : Expr) (ps : List Piece) → Flow (expr_pieces a) → Flow ps → Flow ((operator_pieces o ++ operand expr_level expr_pieces k a) ++ ps)
linked k o a ps x y = beside (beside (flow_operator o) (op k a x)) y
