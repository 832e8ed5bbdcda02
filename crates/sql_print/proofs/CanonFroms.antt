-- The canonical print of what stands behind FROM, one level at a time: as the prints of its own parts say.
use Rattle.std.proofs.Common.{◌≡◌, List, [], ◌∷◌, ◌++◌, map, Option, None, Some, refl, ◌∙◌, ap}
use Rattle.sql_ast.specs.declared.clauses.Name.{Name}
use Rattle.sql_ast.specs.declared.clauses.On.{On}
use Rattle.sql_ast.specs.declared.clauses.On.TheVariants as on
use Rattle.sql_ast.specs.declared.clauses.PivotCall.{PivotCall}
use Rattle.sql_ast.specs.declared.clauses.Turn.{Turn}
use Rattle.sql_ast.specs.declared.clauses.Turn.TheVariants as turn
use Rattle.sql_ast.specs.declared.clauses.Turned.{Turned}
use Rattle.sql_ast.specs.declared.expr.Expr.{Expr}
use Rattle.sql_ast.specs.declared.query.Primary.{Primary, map-Primary}
use Rattle.sql_ast.specs.declared.query.Term.{Term}
use Rattle.sql_ast.specs.declared.query.FromItem.{FromItem}
use Rattle.sql_ast.specs.declared.query.Joined.{Joined}
use Rattle.sql_ast.specs.declared.query.Query.{Query}
use Rattle.sql_ast.specs.declared.query.Select.{Select}
use Rattle.sql_ast.specs.declared.expr.Expr.TheOpen.{Primary-F, FromItem-F, Joined-F}
use Rattle.sql_ast.specs.declared.expr.Expr.TheOpen as ast
use Rattle.sql_ast.specs.declared.expr.Expr.TheShapes as shapes
use Rattle.sql_ast.specs.Pieces.{Piece, name, bracketed, if_there}
use Rattle.sql_ast.specs.Canon as canon
use Rattle.sql_ast.specs.Canon.{Print, canon_expr, canon_pieces}
use Rattle.sql_print.specs.PartPieces as parts
use Rattle.sql_print.specs.PartPieces.{run}
use Rattle.sql_print.specs.TreePieces.{expr_pieces, primary_pieces, term_pieces, from_pieces, joined_pieces, select_pieces}
use Rattle.sql_print.proofs.CanonParts.{a_call, aliased}

abbrev turned_of : Option (Turned Expr) → Option (Turned Print)
turned_of = shapes.former-Primary-Table-2.map Expr Print canon_expr

abbrev turn_of : Turn Expr → Option (Turned Print)
turn_of t = turned_of (Some (record { turn = t; alias = None }))

abbrev calls_in : Option (Turned Print) → List (PivotCall Print)
calls_in None = []
calls_in (Some t) = elim t.turn as (λ x. List (PivotCall Print)) [ turn.Pivot aggregates input values place ↦ aggregates | turn.Unpivot include_nulls value label columns place ↦ [] ]

aggregates : (ks : List (PivotCall Expr)) → map canon.pivot_call_pieces (calls_in (turn_of (turn.Pivot ks [] [] 0))) ≡ map (parts.pivot_call_pieces expr_pieces) ks
aggregates [] = refl
aggregates (k ∷ ks) =
    ap (λ ps. (ps ++ canon.alias_pieces k.alias) ∷ map canon.pivot_call_pieces (calls_in (turn_of (turn.Pivot ks [] [] 0)))) (a_call k.call) ∙ ap (λ ps. parts.pivot_call_pieces expr_pieces k ∷ ps) (aggregates ks)

turns : (t : Turn Expr) (alias : Option Name) → if_there canon.turned_pieces (turned_of (Some (record { turn = t; alias = alias }))) ≡ parts.turned_pieces expr_pieces (record { turn = t; alias = alias })
turns (turn.Pivot ks input values place) alias = rw (aggregates ks) (rw (aliased values) refl)
turns (turn.Unpivot include_nulls value label columns place) alias = refl

turned : (t : Option (Turned Expr)) → if_there canon.turned_pieces (turned_of t) ≡ if_there (parts.turned_pieces expr_pieces) t
turned None = refl
turned (Some t) = turns t.turn t.alias

abbrev pub primary_at : Primary-F Expr Primary Term FromItem Joined Query Select → List Piece
primary_at (ast.Table n alias t place) = parts.table_pieces expr_pieces n alias t
primary_at (Primary-F.«Primary::Query» query alias t place) = parts.subquery_pieces canon_pieces expr_pieces query alias t
primary_at (ast.Path path alias offset place) = parts.array_path_pieces path alias offset
primary_at (ast.Unnest array alias offset place) = parts.unnest_item_pieces expr_pieces array alias offset

abbrev printed_primary : Primary-F Expr Primary Term FromItem Joined Query Select → List Piece
printed_primary x = canon.primary_print (map-Primary Expr Primary Term FromItem Joined Query Select Print (List Piece) (List Piece) (List Piece) (List Piece) (List Piece) (List Piece) canon_expr primary_pieces term_pieces from_pieces joined_pieces canon_pieces select_pieces x)

pub primary_moved : (x : Primary-F Expr Primary Term FromItem Joined Query Select) → printed_primary x ≡ primary_at x
primary_moved (ast.Table n alias t place) = ap (λ ps. name n.text ∷ (canon.alias_pieces alias ++ ps)) (turned t)
primary_moved (Primary-F.«Primary::Query» query alias t place) = ap (λ ps. bracketed (canon_pieces query) ++ canon.alias_pieces alias ++ ps) (turned t)
primary_moved (ast.Path path alias offset place) = refl
primary_moved (ast.Unnest array alias offset place) = refl

abbrev condition_of : Option (On Expr) → Option (On Print)
condition_of = shapes.former-Joined-on.map Expr Print canon_expr

pub condition : (o : Option (On Expr)) → if_there canon.on_pieces (condition_of o) ≡ if_there (parts.on_pieces expr_pieces) o
condition None = refl
condition (Some (on.On e place)) = refl
condition (Some (on.Using columns place)) = refl

abbrev pub joined_at : Joined-F Expr Primary Term FromItem Joined Query Select → List Piece
joined_at j = canon.join_pieces j.word ++ primary_pieces j.primary ++ if_there (parts.on_pieces expr_pieces) j.on

abbrev pub from_at : FromItem-F Expr Primary Term FromItem Joined Query Select → List Piece
from_at f = primary_pieces f.first ++ run joined_pieces f.rest
