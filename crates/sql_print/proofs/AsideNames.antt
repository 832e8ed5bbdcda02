-- The print of names and types doesn't hang on places.
use Rattle.std.proofs.Common.{◌≡◌, List, [], ◌∷◌, map, Option, None, Some, option_map, refl, sym, ◌∙◌, ap, subst}
use Rattle.sql_names.specs.declared.words.Reserved.TheVariants as r
use Rattle.sql_ast.specs.declared.words.Sign.TheVariants as s
use Rattle.sql_ast.specs.declared.words.Word.TheVariants as w
use Rattle.sql_ast.specs.declared.clauses.Name.{Name}
use Rattle.sql_ast.specs.declared.clauses.UnpivotColumn.{UnpivotColumn}
use Rattle.sql_ast.specs.declared.clauses.WithOffset.{WithOffset}
use Rattle.sql_ast.specs.Pieces.{Piece, word, name, read_word, sign, with_commas, if_there}
use Rattle.sql_ast.specs.declared.type_spelling.TypeField.{TypeField}
use Rattle.sql_ast.specs.declared.type_spelling.TypeSpelling.{TypeSpelling, roll-TypeSpelling, out-roll-TypeSpelling, map-TypeSpelling, ind-TypeSpelling}
use Rattle.sql_ast.specs.declared.type_spelling.TypeSpelling.TheOpen as spelling
use Rattle.sql_ast.specs.Canon.{type_pieces, angled, name_pieces, alias_pieces, dots, path_pieces, offset_pieces, unpivot_column_pieces}
use Rattle.sql_print.specs.PartPieces as parts
use Rattle.sql_print.specs.ExprPieces as exprs
use Rattle.sql_same.specs.Bare.{as_is, bare_names, bare_alias, bare_offset, bare_column, bare_field, BareType}
use Rattle.sql_same.proofs.BareLaws.{type_at as bare_type_at, bare_type}
use Rattle.sql_print.proofs.TypeLaws.{type_at, print_type}

pub names_kept : (ns : List Name) → map name_pieces (bare_names as_is ns) ≡ map name_pieces ns
names_kept [] = refl
names_kept (n ∷ ns) = ap (λ (ps : List (List Piece)). name_pieces n ∷ ps) (names_kept ns)

dots_kept : (ns : List Name) → dots (bare_names as_is ns) ≡ dots ns
dots_kept [] = refl
dots_kept (n ∷ ns) = ap (λ (ps : List Piece). sign s.Dot ∷ name n.text ∷ ps) (dots_kept ns)

pub path_kept : (ns : List Name) → path_pieces (bare_names as_is ns) ≡ path_pieces ns
path_kept [] = refl
path_kept (n ∷ ns) = ap (λ (ps : List Piece). name n.text ∷ ps) (dots_kept ns)

pub alias_kept : (a : Option Name) → alias_pieces (bare_alias as_is a) ≡ alias_pieces a
alias_kept None = refl
alias_kept (Some n) = refl

pub offset_kept : (o : Option WithOffset) → if_there offset_pieces (option_map (bare_offset as_is) o) ≡ if_there offset_pieces o
offset_kept None = refl
offset_kept (Some o) = ap (λ (ps : List Piece). word r.With ∷ read_word w.Offset ∷ ps) (alias_kept o.alias)

pub columns_kept : (cs : List UnpivotColumn) → map unpivot_column_pieces (map (bare_column as_is) cs) ≡ map unpivot_column_pieces cs
columns_kept [] = refl
columns_kept (k ∷ cs) = ap (λ (ps : List (List Piece)). unpivot_column_pieces k ∷ ps) (columns_kept cs)

abbrev KT : TypeSpelling → Type 0
KT x = type_pieces (BareType as_is x) ≡ type_pieces x

abbrev ET : Type 0
ET = (x : TypeSpelling) × KT x

abbrev field_at : TypeField ET → TypeField TypeSpelling
field_at f = record { name = f.name; ty = f.ty.0 }

field_name_kept : (n : Option Name) → if_there name_pieces (bare_alias as_is n) ≡ if_there name_pieces n
field_name_kept None = refl
field_name_kept (Some n) = refl

fields_kept : (fs : List (TypeField ET)) → map (parts.field_pieces type_pieces) (map (bare_field as_is (BareType as_is)) (map field_at fs)) ≡ map (parts.field_pieces type_pieces) (map field_at fs)
fields_kept [] = refl
fields_kept (f ∷ fs) = rw (field_name_kept f.name, f.ty.1) (ap (λ (ps : List (List Piece)). parts.field_pieces type_pieces (field_at f) ∷ ps) (fields_kept fs))

type_kept_at : (x : spelling.TypeSpelling-F ET) → type_at (bare_type_at as_is (map-TypeSpelling ET TypeSpelling (λ (e : ET). e.0) x)) ≡ type_at (map-TypeSpelling ET TypeSpelling (λ (e : ET). e.0) x)
type_kept_at (spelling.Name n) = refl
type_kept_at (spelling.Array element place) = rw (element.1) refl
type_kept_at (spelling.Struct fs place) = ap (λ (ps : List (List Piece)). word r.Struct ∷ angled (with_commas ps)) (fields_kept fs)

type_rolled : (z : spelling.TypeSpelling-F TypeSpelling) → type_at (bare_type_at as_is z) ≡ type_at z → KT (roll-TypeSpelling z)
type_rolled z told =
    print_type (BareType as_is (roll-TypeSpelling z)) ∙ ap type_at (bare_type as_is (roll-TypeSpelling z) ∙ ap (bare_type_at as_is) (out-roll-TypeSpelling z)) ∙ told ∙ sym (print_type (roll-TypeSpelling z) ∙ ap type_at (out-roll-TypeSpelling z))

pub type_kept : (x : TypeSpelling) → KT x
type_kept = ind-TypeSpelling KT (λ x e is. subst (λ z. KT (roll-TypeSpelling z)) is (type_rolled _ (type_kept_at e)))

pub plain_fields_kept : (fs : List (TypeField TypeSpelling)) → map (parts.field_pieces type_pieces) (map (bare_field as_is (BareType as_is)) fs) ≡ map (parts.field_pieces type_pieces) fs
plain_fields_kept [] = refl
plain_fields_kept (f ∷ fs) = rw (field_name_kept f.name, type_kept f.ty) (ap (λ (ps : List (List Piece)). parts.field_pieces type_pieces f ∷ ps) (plain_fields_kept fs))

pub element_kept : (t : Option TypeSpelling) → exprs.element_pieces (option_map (BareType as_is) t) ≡ exprs.element_pieces t
element_kept None = refl
element_kept (Some t) = rw (type_kept t) refl
