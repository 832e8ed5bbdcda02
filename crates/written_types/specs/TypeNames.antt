-- Types as a text writes them.
use Rattle.std.specs.Prelude.{ℕ, Bool, true, false, if◌then◌else◌, List, [], ◌∷◌, codes, Option, None, Some, Ok}
use Rattle.sql_types.specs.declared.sql_type.Named.{Named}
use Rattle.sql_types.specs.declared.sql_type.SqlType.{SqlType, out-SqlType}
use Rattle.sql_types.specs.declared.sql_type.SqlType.TheVariants as ty
use Rattle.sql_types.specs.declared.sql_type.SqlType.TheOpen as t
use Rattle.sql_names.specs.Words.{same_name}
use Rattle.sql_ast.specs.declared.clauses.Name.{Name}
use Rattle.sql_ast.specs.declared.type_spelling.TypeField.{TypeField}
use Rattle.sql_ast.specs.declared.type_spelling.TypeSpelling.{TypeSpelling, fold-TypeSpelling}
use Rattle.sql_ast.specs.declared.type_spelling.TypeSpelling.TheOpen as spelling
use Rattle.written_types.specs.Checks.{Checked, ◌>>=◌, broken}

abbrev pub is_array : t.SqlType-F SqlType → Bool
is_array (t.Array element) = true
is_array _ = false

-- the types that have no parts, each by its name
abbrev pub plain_types : List (List ℕ × SqlType)
plain_types =
    (codes "BOOL", ty.Bool) ∷ (codes "INT32", ty.Int32) ∷ (codes "INT64", ty.Int64) ∷ (codes "UINT32", ty.Uint32) ∷ (codes "UINT64", ty.Uint64) ∷
    (codes "STRING", ty.Text) ∷ (codes "BYTES", ty.Bytes) ∷ (codes "DATE", ty.Date) ∷ []

abbrev pub type_named : List ℕ → List (List ℕ × SqlType) → Option SqlType
type_named name [] = None
type_named name (entry ∷ entries) = if same_name entry.0 name then Some entry.1 else type_named name entries

-- there is no type of this name (rule 28 at the name)
abbrev pub known_type : ℕ → Option SqlType → Checked SqlType
known_type place None = broken 28 place
known_type place (Some type) = Ok type

-- an array of arrays (rule 21 at the outer type)
abbrev pub array_type : ℕ → SqlType → Checked SqlType
array_type place element = if is_array (out-SqlType element) then broken 21 place else Ok (ty.Array element)

abbrev pub name_text : Option Name → Option (List ℕ)
name_text None = None
name_text (Some name) = Some name.text

-- fields from left to right
abbrev pub field_types : List (TypeField (Checked SqlType)) → Checked (List (Named SqlType))
field_types [] = Ok []
field_types (field ∷ fields) = field.ty >>= (λ type. field_types fields >>= (λ types. Ok (record { name = name_text field.name; ty = type } ∷ types)))

abbrev pub written_layer : spelling.TypeSpelling-F (Checked SqlType) → Checked SqlType
written_layer (spelling.Name name) = known_type name.place (type_named name.text plain_types)
written_layer (spelling.Array element place) = element >>= array_type place
written_layer (spelling.Struct fields place) = field_types fields >>= (λ types. Ok (ty.Struct types))

-- the type that a text writes
unfoldable pub written_type : TypeSpelling → Checked SqlType
written_type = fold-TypeSpelling (Checked SqlType) written_layer
