-- How types are spelled.
use Rattle.std.specs.Prelude.{ℕ, List, [], ◌++◌, map, codes, Option, Some, None}
use Rattle.sql_names.specs.Spelling.{quote_name}
use Rattle.sql_names.specs.Commas.{joined}
use Rattle.sql_types.specs.declared.sql_type.Named.{Named}
use Rattle.sql_types.specs.declared.sql_type.SqlType.{SqlType, fold-SqlType}
use Rattle.sql_types.specs.declared.sql_type.SqlType.TheOpen as t

-- the name of a column, or of a field of a STRUCT, and a space, where there is a name
abbrev pub name_front : Option (List ℕ) → List ℕ
name_front None = []
name_front (Some name) = quote_name name ++ codes " "

-- a column, or a field of a STRUCT: its name, where there is one, and its type
abbrev pub named_text : Named (List ℕ) → List ℕ
named_text f = name_front f.name ++ f.ty

-- a type's parts are given by their spelling
abbrev pub type_layer : t.SqlType-F (List ℕ) → List ℕ
type_layer t.Bool = codes "BOOL"
type_layer t.Int32 = codes "INT32"
type_layer t.Int64 = codes "INT64"
type_layer t.Uint32 = codes "UINT32"
type_layer t.Uint64 = codes "UINT64"
type_layer t.Text = codes "STRING"
type_layer t.Bytes = codes "BYTES"
type_layer t.Date = codes "DATE"
-- the element's type, and the fields, stand in `<` and `>` with no space round them
type_layer (t.Array element) = (codes "ARRAY<" ++ element) ++ codes ">"
type_layer (t.Struct fields) = (codes "STRUCT<" ++ joined (map named_text fields)) ++ codes ">"

-- the spelling of a type
unfoldable pub type_text : SqlType → List ℕ
type_text = fold-SqlType (List ℕ) type_layer

-- the spelling of a column, or of a field of a STRUCT
abbrev pub column_text : Named SqlType → List ℕ
column_text c = name_front c.name ++ type_text c.ty
