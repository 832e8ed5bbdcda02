-- The catalog of one table, with columns of INT64 and STRING.
use Rattle.std.specs.Prelude.{◌≡◌, ◌⊎◌, ◌≤◌, ℕ, suc, Bool, true, false, not, ◌&&◌, ◌==◌, nat_le, if◌then◌else◌, List, [], ◌∷◌, length, codes, Option, Some, None, option_and_then, All}
use Rattle.std.specs.List.{list_any}
use Rattle.std.specs.Option.{option_map_or}
use Rattle.std.specs.Str.{is_utf8}
use Rattle.serde_json.specs.Data.{Data, Items, no_items, item, Members, no_members, member}
use Rattle.serde_json.specs.Find.{get, as_array, as_object, as_str, as_number, as_u64}
use Rattle.serde_json.specs.Read.{read}
use Rattle.sql_names.specs.Words.{same_name}
use Rattle.sql_types.specs.declared.sql_type.Named.{Named}
use Rattle.sql_types.specs.declared.sql_type.SqlType.{SqlType}
use Rattle.sql_types.specs.declared.sql_type.SqlType.TheVariants as t
use Rattle.sql_catalog.specs.declared.entries.TableDef.{TableDef}

-- the JSON that the bytes are, if they are UTF-8; a key that is given twice has its last value and counts once
abbrev pub json_of : List ℕ → Option Data
json_of bytes = if is_utf8 bytes then read bytes else None

abbrev pub member_count : Members → ℕ
member_count no_members = 0
member_count (member key value members) = suc (member_count members)

-- an object with so many keys; where that many keys are looked up in it as well, it has no other
abbrev pub has_keys : ℕ → Data → Bool
has_keys count value = option_map_or (λ members. member_count members == count) (as_object value) false

-- the text, or the array, at a key
abbrev pub text_at : List ℕ → Data → Option (List ℕ)
text_at key value = option_and_then as_str (get key value)

abbrev pub items_at : List ℕ → Data → Option Items
items_at key value = option_and_then as_array (get key value)

-- a name has 1 to 128 bytes
abbrev pub is_name : List ℕ → Bool
is_name text = nat_le 1 (length text) && nat_le (length text) 128

abbrev pub only_name : List ℕ → Option (List ℕ)
only_name text = if is_name text then Some text else None

abbrev pub name_at : Data → Option (List ℕ)
name_at value = option_and_then only_name (text_at (codes "name") value)

-- INT64 and STRING, in any case
abbrev pub type_of : List ℕ → Option SqlType
type_of text =
    if same_name (codes "INT64") text then Some t.Int64
    else if same_name (codes "STRING") text then Some t.Text
    else None

abbrev pub type_at : Data → Option SqlType
type_at value = option_and_then type_of (text_at (codes "type") value)

-- an object with the keys name and type
abbrev pub column_parts : Option (List ℕ) → Option SqlType → Option (Named SqlType)
column_parts (Some name) (Some ty) = Some (record { name = Some name; ty = ty })
column_parts _ _ = None

abbrev pub column_of : Data → Option (Named SqlType)
column_of value = if has_keys 2 value then column_parts (name_at value) (type_at value) else None

-- each item is a column
abbrev pub before_columns : Option (Named SqlType) → Option (List (Named SqlType)) → Option (List (Named SqlType))
before_columns (Some column) (Some columns) = Some (column ∷ columns)
before_columns _ _ = None

abbrev pub columns_of : Items → Option (List (Named SqlType))
columns_of no_items = Some []
columns_of (item value items) = before_columns (column_of value) (columns_of items)

-- the column has that name
abbrev pub is_named : List ℕ → Named SqlType → Bool
is_named name column = option_map_or (same_name name) column.name false

-- a later column has the name of this one
abbrev pub is_named_again : Named SqlType → List (Named SqlType) → Bool
is_named_again column later = option_map_or (λ name. list_any (is_named name) later) column.name false

-- no two columns have one name
abbrev pub distinct : List (Named SqlType) → Bool
distinct [] = true
distinct (column ∷ columns) = not (is_named_again column columns) && distinct columns

-- one or more columns with distinct names
abbrev pub only_distinct : List (Named SqlType) → Option (List (Named SqlType))
only_distinct columns = if nat_le 1 (length columns) && distinct columns then Some columns else None

abbrev pub all_columns : Items → Option (List (Named SqlType))
all_columns items = option_and_then only_distinct (columns_of items)

abbrev pub columns_at : Data → Option (List (Named SqlType))
columns_at value = option_and_then all_columns (items_at (codes "columns") value)

-- an object with the keys name, file and columns
abbrev pub table_parts : Option (List ℕ) → Option (List ℕ) → Option (List (Named SqlType)) → Option TableDef
table_parts (Some name) (Some file) (Some columns) = Some (record { name = name; file = file; columns = columns })
table_parts _ _ _ = None

abbrev pub table_of : Data → Option TableDef
table_of value = if has_keys 3 value then table_parts (name_at value) (text_at (codes "file") value) (columns_at value) else None

-- the whole number 1
abbrev pub is_version_1 : Data → Bool
is_version_1 value = option_map_or (λ n. n == 1) (option_and_then as_u64 (option_and_then as_number (get (codes "version") value))) false

abbrev pub is_empty : Items → Bool
is_empty no_items = true
is_empty (item value items) = false

-- an array with nothing in it
abbrev pub is_empty_at : List ℕ → Data → Bool
is_empty_at key value = option_map_or is_empty (items_at key value) false

-- the one item
abbrev pub only_item : Items → Option Data
only_item (item value no_items) = Some value
only_item _ = None

-- an object with the keys version, tables, definitions and parameters, with one table, no definition and no parameter
abbrev pub has_form : Data → Bool
has_form value = has_keys 4 value && is_version_1 value && is_empty_at (codes "definitions") value && is_empty_at (codes "parameters") value

abbrev pub catalog_in : Data → Option TableDef
catalog_in value = if has_form value then option_and_then table_of (option_and_then only_item (items_at (codes "tables") value)) else None

-- the table of the catalog that the bytes are; bytes of another form are none
unfoldable pub catalog_of : List ℕ → Option TableDef
catalog_of bytes = option_and_then catalog_in (json_of bytes)

-- a column with a name, of a type that the small catalog has
abbrev pub IsSmallColumn : Named SqlType → Type 0
IsSmallColumn column = ((name : List ℕ) × (column.name ≡ Some name) × (is_name name ≡ true)) × ((column.ty ≡ t.Int64) ⊎ (column.ty ≡ t.Text))

-- what every such table is
pub record IsSmall (table : TableDef) : Type 0 where
  pub named : is_name table.name ≡ true
  pub some : 1 ≤ length table.columns
  pub columns : All IsSmallColumn table.columns
  pub distinct_names : distinct table.columns ≡ true
