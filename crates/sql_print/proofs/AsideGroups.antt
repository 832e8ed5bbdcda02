-- The print of GROUP BY doesn't hang on places, if those of its expressions don't.
use Rattle.std.proofs.Common.{◌≡◌, List, [], ◌∷◌, map, Option, None, Some, option_map, refl}
use Rattle.sql_names.specs.declared.words.Reserved.TheVariants as r
use Rattle.sql_ast.specs.declared.words.Word.TheVariants as w
use Rattle.sql_ast.specs.declared.grouping.Cube.{Cube}
use Rattle.sql_ast.specs.declared.grouping.GroupItem.{GroupItem}
use Rattle.sql_ast.specs.declared.grouping.GroupItem.TheVariants as group_item
use Rattle.sql_ast.specs.declared.grouping.GroupSet.{GroupSet}
use Rattle.sql_ast.specs.declared.grouping.GroupSet.TheVariants as group_set
use Rattle.sql_ast.specs.declared.grouping.Groups.{Groups}
use Rattle.sql_ast.specs.declared.grouping.Groups.TheVariants as groups
use Rattle.sql_ast.specs.declared.expr.Expr.{Expr}
use Rattle.sql_ast.specs.declared.expr.Expr.TheShapes as shapes
use Rattle.sql_ast.specs.Pieces.{word, read_word, bracketed, with_commas}
use Rattle.sql_ast.specs.Canon.{cube_word}
use Rattle.sql_print.specs.PartPieces as parts
use Rattle.sql_print.specs.QueryPieces as queries
use Rattle.sql_print.specs.TreePieces.{expr_pieces}
use Rattle.sql_same.specs.Bare.{bare_group_item, bare_set, bare_groups}
use Rattle.sql_print.proofs.AsideClaims.{bare, E1, at1}
use Rattle.sql_print.proofs.AsideParts.{exprs_kept}

abbrev groups_at : Option (Groups E1) → Option (Groups Expr)
groups_at = shapes.former-Select-grouping.map E1 Expr at1

abbrev sets_in : Option (Groups Expr) → List (GroupSet Expr)
sets_in None = []
sets_in (Some (groups.Keys keys place)) = []
sets_in (Some (groups.Empty place)) = []
sets_in (Some (groups.Sets sets place)) = sets
sets_in (Some (groups.Cube cube place)) = []

abbrev items_in : Option (Groups Expr) → List (GroupItem Expr)
items_in None = []
items_in (Some (groups.Keys keys place)) = []
items_in (Some (groups.Empty place)) = []
items_in (Some (groups.Sets sets place)) = []
items_in (Some (groups.Cube cube place)) = cube.items

abbrev gitems_at : Cube E1 → List (GroupItem E1) → List (GroupItem Expr)
gitems_at k xs = items_in (groups_at (Some (groups.Cube (record { kind = k.kind; items = xs; place = 0 }) 0)))

gitems_kept : (k : Cube E1) (xs : List (GroupItem E1)) → map (parts.group_item_pieces expr_pieces) (map (bare_group_item bare) (gitems_at k xs)) ≡ map (parts.group_item_pieces expr_pieces) (gitems_at k xs)
gitems_kept k [] = refl
gitems_kept k (group_item.Expr a ∷ xs) = λ i. (a.1 i).pieces ∷ gitems_kept k xs i
gitems_kept k (group_item.List es place ∷ xs) = λ i. bracketed (with_commas (exprs_kept es i)) ∷ gitems_kept k xs i

abbrev sets_at : List (GroupSet E1) → List (GroupSet Expr)
sets_at xs = sets_in (groups_at (Some (groups.Sets xs 0)))

sets_kept : (xs : List (GroupSet E1)) → map (parts.set_pieces expr_pieces) (map (bare_set bare) (sets_at xs)) ≡ map (parts.set_pieces expr_pieces) (sets_at xs)
sets_kept [] = refl
sets_kept (group_set.Item (group_item.Expr a) ∷ xs) = λ i. (a.1 i).pieces ∷ sets_kept xs i
sets_kept (group_set.Item (group_item.List es place) ∷ xs) = λ i. bracketed (with_commas (exprs_kept es i)) ∷ sets_kept xs i
sets_kept (group_set.Cube k ∷ xs) = λ i. (cube_word k.kind ∷ bracketed (with_commas (gitems_kept k k.items i))) ∷ sets_kept xs i

pub grouping_kept : (g : Option (Groups E1)) → queries.grouping_pieces expr_pieces (option_map (bare_groups bare) (groups_at g)) ≡ queries.grouping_pieces expr_pieces (groups_at g)
grouping_kept None = refl
grouping_kept (Some (groups.Keys keys place)) = λ i. word r.Group ∷ word r.By ∷ with_commas (exprs_kept keys i)
grouping_kept (Some (groups.Empty place)) = refl
grouping_kept (Some (groups.Sets xs place)) = λ i. word r.Group ∷ word r.By ∷ word r.Grouping ∷ read_word w.Sets ∷ bracketed (with_commas (sets_kept xs i))
grouping_kept (Some (groups.Cube k place)) = λ i. word r.Group ∷ word r.By ∷ cube_word k.kind ∷ bracketed (with_commas (gitems_kept k k.items i))
