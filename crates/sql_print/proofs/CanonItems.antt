-- The canonical print of the items of a SELECT: as the prints of their own parts say.
use Rattle.std.proofs.Common.{◌≡◌, List, [], ◌∷◌, map, refl, ap}
use Rattle.sql_ast.specs.declared.words.Word.TheVariants as w
use Rattle.sql_ast.specs.declared.clauses.Item.{Item}
use Rattle.sql_ast.specs.declared.clauses.Item.TheVariants as item
use Rattle.sql_ast.specs.declared.clauses.Replacement.{Replacement}
use Rattle.sql_ast.specs.declared.expr.Expr.{Expr}
use Rattle.sql_ast.specs.declared.expr.Expr.TheShapes as shapes
use Rattle.sql_ast.specs.Pieces.{read_word, bracketed, with_commas}
use Rattle.sql_ast.specs.Canon as canon
use Rattle.sql_ast.specs.Canon.{Print, canon_expr}
use Rattle.sql_print.specs.PartPieces as parts
use Rattle.sql_print.specs.TreePieces.{expr_level, expr_pieces}
use Rattle.sql_print.proofs.CanonParts.{moved}

abbrev items_of : List (Item Expr) → List (Item Print)
items_of = shapes.former-Select-items.map Expr Print canon_expr

abbrev replacement_of : Replacement Expr → Replacement Print
replacement_of x = record { expr = canon_expr x.expr; name = x.name }

replacements : (xs : List (Replacement Expr)) → map canon.replacement_pieces (map replacement_of xs) ≡ map (parts.replacement_pieces expr_pieces) xs
replacements = moved canon.replacement_pieces replacement_of (parts.replacement_pieces expr_pieces) (λ x. refl)

replace : (xs : List (Replacement Expr)) → canon.replace_pieces (map replacement_of xs) ≡ parts.replace_pieces expr_pieces xs
replace [] = refl
replace (x ∷ xs) = ap (λ ps. read_word w.Replace ∷ bracketed (with_commas ps)) (replacements (x ∷ xs))

pub items : (is : List (Item Expr)) → map canon.item_pieces (items_of is) ≡ map (parts.item_pieces expr_level expr_pieces) is
items [] = refl
items (item.Star edit place ∷ is) = rw (replace edit.replace) (ap (λ ps. parts.item_pieces expr_level expr_pieces (item.Star edit place) ∷ ps) (items is))
items (item.QualifiedStar e edit place ∷ is) = rw (replace edit.replace) (ap (λ ps. parts.item_pieces expr_level expr_pieces (item.QualifiedStar e edit place) ∷ ps) (items is))
items (item.Expr e alias place ∷ is) = ap (λ ps. parts.item_pieces expr_level expr_pieces (item.Expr e alias place) ∷ ps) (items is)
