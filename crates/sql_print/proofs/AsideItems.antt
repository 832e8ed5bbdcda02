-- The print of the items of a SELECT doesn't hang on places, if those of their expressions don't.
use Rattle.std.proofs.Common.{◌≡◌, List, [], ◌∷◌, ◌++◌, map, refl, ap}
use Rattle.sql_names.specs.declared.words.Reserved.TheVariants as r
use Rattle.sql_ast.specs.declared.words.Sign.TheVariants as s
use Rattle.sql_ast.specs.declared.words.Word.TheVariants as w
use Rattle.sql_ast.specs.declared.clauses.Item.{Item}
use Rattle.sql_ast.specs.declared.clauses.Item.TheVariants as item
use Rattle.sql_ast.specs.declared.clauses.Name.{Name}
use Rattle.sql_ast.specs.declared.clauses.Replacement.{Replacement}
use Rattle.sql_ast.specs.declared.expr.Expr.{Expr}
use Rattle.sql_ast.specs.declared.expr.Expr.TheShapes as shapes
use Rattle.sql_ast.specs.Pieces.{Piece, word, name, read_word, sign, bracketed, with_commas}
use Rattle.sql_ast.specs.Canon.{postfix_level, name_pieces, except_pieces}
use Rattle.sql_print.specs.PartPieces as parts
use Rattle.sql_print.specs.TreePieces.{expr_level, expr_pieces}
use Rattle.sql_same.specs.Bare.{as_is, bare_names, bare_replacement, bare_item}
use Rattle.sql_print.proofs.AsideClaims.{bare, E1, at1}
use Rattle.sql_print.proofs.AsideNames.{names_kept, alias_kept}
use Rattle.sql_print.proofs.AsideParts.{placed}

abbrev items_at : List (Item E1) → List (Item Expr)
items_at = shapes.former-Select-items.map E1 Expr at1

abbrev replacement_at : Replacement E1 → Replacement Expr
replacement_at x = record { expr = x.expr.0; name = x.name }

replacements_kept : (xs : List (Replacement E1)) → map (parts.replacement_pieces expr_pieces) (map (bare_replacement as_is bare) (map replacement_at xs)) ≡ map (parts.replacement_pieces expr_pieces) (map replacement_at xs)
replacements_kept [] = refl
replacements_kept (x ∷ xs) = λ i. ((x.expr.1 i).pieces ++ word r.As ∷ name x.name.text ∷ []) ∷ replacements_kept xs i

replace_kept : (xs : List (Replacement E1)) → parts.replace_pieces expr_pieces (map (bare_replacement as_is bare) (map replacement_at xs)) ≡ parts.replace_pieces expr_pieces (map replacement_at xs)
replace_kept [] = refl
replace_kept (x ∷ xs) = ap (λ ps. read_word w.Replace ∷ bracketed (with_commas ps)) (replacements_kept (x ∷ xs))

except_kept : (ns : List Name) → except_pieces (bare_names as_is ns) ≡ except_pieces ns
except_kept [] = refl
except_kept (n ∷ ns) = ap (λ (ps : List (List Piece)). word r.Except ∷ bracketed (with_commas (name_pieces n ∷ ps))) (names_kept ns)

pub items_kept : (is : List (Item E1)) → map (parts.item_pieces expr_level expr_pieces) (map (bare_item as_is bare) (items_at is)) ≡ map (parts.item_pieces expr_level expr_pieces) (items_at is)
items_kept [] = refl
items_kept (item.Star edit place ∷ is) = λ i. (sign s.Star ∷ (except_kept edit.except i ++ replace_kept edit.replace i)) ∷ items_kept is i
items_kept (item.QualifiedStar a edit place ∷ is) = λ i. (placed postfix_level (a.1 i) ++ sign s.Dot ∷ sign s.Star ∷ (except_kept edit.except i ++ replace_kept edit.replace i)) ∷ items_kept is i
items_kept (item.Expr a alias place ∷ is) = λ i. ((a.1 i).pieces ++ alias_kept alias i) ∷ items_kept is i
