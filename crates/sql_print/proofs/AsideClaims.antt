-- That the canonical print doesn't hang on places: what is claimed of each sort of tree, and trees for which it holds.
use Rattle.std.proofs.Common.{◌≡◌}
use Rattle.sql_ast.specs.declared.expr.Expr.{Expr}
use Rattle.sql_ast.specs.declared.query.Primary.{Primary}
use Rattle.sql_ast.specs.declared.query.Term.{Term}
use Rattle.sql_ast.specs.declared.query.FromItem.{FromItem}
use Rattle.sql_ast.specs.declared.query.Joined.{Joined}
use Rattle.sql_ast.specs.declared.query.Query.{Query}
use Rattle.sql_ast.specs.declared.query.Select.{Select}
use Rattle.sql_ast.specs.Canon.{canon_expr, canon_pieces}
use Rattle.sql_print.specs.TreePieces.{primary_pieces, term_pieces, from_pieces, joined_pieces, select_pieces}
use Rattle.sql_same.specs.Bare.{as_is, BareExpr, BarePrimary, BareTerm, BareFrom, BareJoined, BareQuery, BareSelect}

abbrev pub bare : Expr → Expr
bare = BareExpr as_is

abbrev pub K1 : Expr → Type 0
K1 x = canon_expr (BareExpr as_is x) ≡ canon_expr x

abbrev pub K2 : Primary → Type 0
K2 x = primary_pieces (BarePrimary as_is x) ≡ primary_pieces x

abbrev pub K3 : Term → Type 0
K3 x = term_pieces (BareTerm as_is x) ≡ term_pieces x

abbrev pub K4 : FromItem → Type 0
K4 x = from_pieces (BareFrom as_is x) ≡ from_pieces x

abbrev pub K5 : Joined → Type 0
K5 x = joined_pieces (BareJoined as_is x) ≡ joined_pieces x

abbrev pub K6 : Query → Type 0
K6 x = canon_pieces (BareQuery as_is x) ≡ canon_pieces x

abbrev pub K7 : Select → Type 0
K7 x = select_pieces (BareSelect as_is x) ≡ select_pieces x

abbrev pub E1 : Type 0
E1 = (x : Expr) × K1 x

abbrev pub E2 : Type 0
E2 = (x : Primary) × K2 x

abbrev pub E3 : Type 0
E3 = (x : Term) × K3 x

abbrev pub E4 : Type 0
E4 = (x : FromItem) × K4 x

abbrev pub E5 : Type 0
E5 = (x : Joined) × K5 x

abbrev pub E6 : Type 0
E6 = (x : Query) × K6 x

abbrev pub E7 : Type 0
E7 = (x : Select) × K7 x

abbrev pub at1 : E1 → Expr
at1 e = e.0

abbrev at6 : E6 → Query
at6 e = e.0
