-- The print of a written type, one level at a time.
use Rattle.std.proofs.Common.{◌≡◌, List, [], ◌∷◌, map, refl, sym, ◌∙◌, ap}
use Rattle.sql_names.specs.declared.words.Reserved.TheVariants as r
use Rattle.sql_ast.specs.declared.type_spelling.TypeField.{TypeField}
use Rattle.sql_ast.specs.declared.type_spelling.TypeSpelling.{TypeSpelling, out-TypeSpelling, roll-out-TypeSpelling, map-TypeSpelling, fold-roll-TypeSpelling}
use Rattle.sql_ast.specs.declared.type_spelling.TypeSpelling.TheOpen as spelling
use Rattle.sql_ast.specs.Pieces.{Piece, word, with_commas}
use Rattle.sql_ast.specs.Canon as canon
use Rattle.sql_ast.specs.Canon.{type_pieces}
use Rattle.sql_print.specs.PartPieces.{listed, field_pieces}

abbrev field_of : TypeField TypeSpelling → TypeField (List Piece)
field_of f = record { name = f.name; ty = type_pieces f.ty }

fields : (fs : List (TypeField TypeSpelling)) → map canon.field_pieces (map field_of fs) ≡ map (field_pieces type_pieces) fs
fields [] = refl
fields (f ∷ fs) = ap (λ ps. field_pieces type_pieces f ∷ ps) (fields fs)

abbrev pub type_at : spelling.TypeSpelling-F TypeSpelling → List Piece
type_at (spelling.Name n) = canon.name_pieces n
type_at (spelling.Array element place) = word r.Array ∷ canon.angled (type_pieces element)
type_at (spelling.Struct fs place) = word r.Struct ∷ canon.angled (listed (field_pieces type_pieces) fs)

type_moved : (x : spelling.TypeSpelling-F TypeSpelling) → canon.type_layer (map-TypeSpelling TypeSpelling (List Piece) type_pieces x) ≡ type_at x
type_moved (spelling.Name n) = refl
type_moved (spelling.Array element place) = refl
type_moved (spelling.Struct fs place) = ap (λ ps. word r.Struct ∷ canon.angled (with_commas ps)) (fields fs)

pub print_type : (x : TypeSpelling) → type_pieces x ≡ type_at (out-TypeSpelling x)
unfolding type_pieces
print_type x = ap type_pieces (sym (roll-out-TypeSpelling x)) ∙ fold-roll-TypeSpelling (List Piece) canon.type_layer (out-TypeSpelling x) ∙ type_moved (out-TypeSpelling x)
