-- The tokens of each sort of tree in the canonical print.
use Rattle.std.specs.Prelude.{ℕ, List}
use Rattle.sql_ast.specs.declared.expr.Expr.{Expr}
use Rattle.sql_ast.specs.declared.query.Primary.{Primary, fold-Primary}
use Rattle.sql_ast.specs.declared.query.Term.{Term, fold-Term}
use Rattle.sql_ast.specs.declared.query.FromItem.{FromItem, fold-FromItem}
use Rattle.sql_ast.specs.declared.query.Joined.{Joined, fold-Joined}
use Rattle.sql_ast.specs.declared.query.Select.{Select, fold-Select}
use Rattle.sql_ast.specs.Pieces.{Piece}
use Rattle.sql_ast.specs.Canon.{Print, canon_expr, expr_print, primary_print, term_print, from_print, joined_print, query_print, select_print}

abbrev pub expr_level : Expr → ℕ
expr_level e = (canon_expr e).level

abbrev pub expr_pieces : Expr → List Piece
expr_pieces e = (canon_expr e).pieces

unfoldable pub primary_pieces : Primary → List Piece
primary_pieces = fold-Primary Print (List Piece) (List Piece) (List Piece) (List Piece) (List Piece) (List Piece) expr_print primary_print term_print from_print joined_print query_print select_print

unfoldable pub term_pieces : Term → List Piece
term_pieces = fold-Term Print (List Piece) (List Piece) (List Piece) (List Piece) (List Piece) (List Piece) expr_print primary_print term_print from_print joined_print query_print select_print

unfoldable pub from_pieces : FromItem → List Piece
from_pieces = fold-FromItem Print (List Piece) (List Piece) (List Piece) (List Piece) (List Piece) (List Piece) expr_print primary_print term_print from_print joined_print query_print select_print

unfoldable pub joined_pieces : Joined → List Piece
joined_pieces = fold-Joined Print (List Piece) (List Piece) (List Piece) (List Piece) (List Piece) (List Piece) expr_print primary_print term_print from_print joined_print query_print select_print

unfoldable pub select_pieces : Select → List Piece
select_pieces = fold-Select Print (List Piece) (List Piece) (List Piece) (List Piece) (List Piece) (List Piece) expr_print primary_print term_print from_print joined_print query_print select_print
