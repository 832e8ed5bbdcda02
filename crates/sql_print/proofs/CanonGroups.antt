-- The canonical print of GROUP BY: as the prints of its own parts say.
use Rattle.std.proofs.Common.{◌≡◌, List, [], ◌∷◌, map, Option, None, Some, refl, ap}
use Rattle.sql_names.specs.declared.words.Reserved.TheVariants as r
use Rattle.sql_ast.specs.declared.grouping.Cube.{Cube}
use Rattle.sql_ast.specs.declared.grouping.GroupItem.{GroupItem}
use Rattle.sql_ast.specs.declared.grouping.GroupItem.TheVariants as group_item
use Rattle.sql_ast.specs.declared.grouping.GroupSet.{GroupSet}
use Rattle.sql_ast.specs.declared.grouping.GroupSet.TheVariants as group_set
use Rattle.sql_ast.specs.declared.grouping.Groups.{Groups}
use Rattle.sql_ast.specs.declared.grouping.Groups.TheVariants as groups
use Rattle.sql_ast.specs.declared.expr.Expr.{Expr}
use Rattle.sql_ast.specs.declared.expr.Expr.TheShapes as shapes
use Rattle.sql_ast.specs.Pieces.{word, bracketed, if_there}
use Rattle.sql_ast.specs.Canon as canon
use Rattle.sql_ast.specs.Canon.{Print, canon_expr}
use Rattle.sql_print.specs.PartPieces as parts
use Rattle.sql_print.specs.PartPieces.{listed}
use Rattle.sql_print.specs.QueryPieces as queries
use Rattle.sql_print.specs.TreePieces.{expr_pieces}
use Rattle.sql_print.proofs.CanonParts.{own}

abbrev groups_of : Option (Groups Expr) → Option (Groups Print)
groups_of = shapes.former-Select-grouping.map Expr Print canon_expr

abbrev sets_in : Option (Groups Print) → List (GroupSet Print)
sets_in None = []
sets_in (Some (groups.Keys keys place)) = []
sets_in (Some (groups.Empty place)) = []
sets_in (Some (groups.Sets sets place)) = sets
sets_in (Some (groups.Cube cube place)) = []

abbrev items_in : Option (Groups Print) → List (GroupItem Print)
items_in None = []
items_in (Some (groups.Keys keys place)) = []
items_in (Some (groups.Empty place)) = []
items_in (Some (groups.Sets sets place)) = []
items_in (Some (groups.Cube cube place)) = cube.items

cubed : (c : Cube Expr) (xs : List (GroupItem Expr)) →
    map canon.group_item_pieces (items_in (groups_of (Some (groups.Cube (record { kind = c.kind; items = xs; place = 0 }) 0)))) ≡ map (parts.group_item_pieces expr_pieces) xs
cubed c [] = refl
cubed c (group_item.Expr e ∷ xs) = ap (λ ps. expr_pieces e ∷ ps) (cubed c xs)
cubed c (group_item.List es place ∷ xs) = rw (own es) (ap (λ ps. bracketed (listed expr_pieces es) ∷ ps) (cubed c xs))

sets : (xs : List (GroupSet Expr)) → map canon.set_pieces (sets_in (groups_of (Some (groups.Sets xs 0)))) ≡ map (parts.set_pieces expr_pieces) xs
sets [] = refl
sets (group_set.Item (group_item.Expr e) ∷ xs) = ap (λ ps. expr_pieces e ∷ ps) (sets xs)
sets (group_set.Item (group_item.List es place) ∷ xs) = rw (own es) (ap (λ ps. bracketed (listed expr_pieces es) ∷ ps) (sets xs))
sets (group_set.Cube c ∷ xs) = rw (cubed c c.items) (ap (λ ps. parts.cube_pieces expr_pieces c ∷ ps) (sets xs))

pub grouping : (g : Option (Groups Expr)) → if_there (λ g. word r.Group ∷ word r.By ∷ canon.groups_pieces g) (groups_of g) ≡ queries.grouping_pieces expr_pieces g
grouping None = refl
grouping (Some (groups.Keys keys place)) = ap (λ ps. word r.Group ∷ word r.By ∷ ps) (own keys)
grouping (Some (groups.Empty place)) = refl
grouping (Some (groups.Sets xs place)) = rw (sets xs) refl
grouping (Some (groups.Cube c place)) = rw (cubed c c.items) refl
