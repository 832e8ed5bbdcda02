-- Every table of a small catalog is small.
use Rattle.std.proofs.Common.{◌≡◌, ◌≤◌, ◌⊎◌, ℕ, Bool, true, false, List, [], ◌∷◌, length, Option, Some, None, if◌then◌else◌, codes, refl, inl, inr, arith}
use Rattle.std.proofs.lemmas.Bool.{leb-true}
use Rattle.std.proofs.lemmas.List.Elements.{All-cons}
use Rattle.std.specs.Prelude.{All, ◌&&◌, nat_le, option_and_then}
use Rattle.serde_json.specs.Data.{Data, Items, no_items, item}
use Rattle.sql_names.specs.Words.{same_name}
use Rattle.sql_types.specs.declared.sql_type.Named.{Named}
use Rattle.sql_types.specs.declared.sql_type.SqlType.{SqlType}
use Rattle.sql_types.specs.declared.sql_type.SqlType.TheVariants as t
use Rattle.sql_catalog.specs.declared.entries.TableDef.{TableDef}
use Rattle.small_catalog.specs.Catalogs.{IsSmall, IsSmallColumn, all_columns, before_columns, catalog_in, catalog_of, column_of, column_parts, columns_at, columns_of, distinct, has_form, has_keys, is_name, items_at, json_of, name_at, only_distinct, only_item, only_name, table_of, table_parts, text_at, type_at, type_of}

abbrev Column : Type 0
Column = Named SqlType

-- what a step gave, and what came before it
some-then : {A B : Type 0} (f : A → Option B) (o : Option A) (b : B) → option_and_then f o ≡ Some b → (a : A) × (o ≡ Some a) × (f a ≡ Some b)
some-then f None b is = cc
some-then f (Some a) b is = (a, refl, is)

some-if : {A : Type 0} (test : Bool) (o : Option A) (x : A) → (if test then o else None) ≡ Some x → (test ≡ true) × (o ≡ Some x)
some-if true o x is = (refl, is)
some-if false o x is = cc

both : (a b : Bool) → (a && b) ≡ true → (a ≡ true) × (b ≡ true)
both true b is = (refl, is)
both false b is = cc

name_at-name : (value : Data) (name : List ℕ) → name_at value ≡ Some name → is_name name ≡ true
name_at-name value name is =
    let read = some-then only_name (text_at (codes "name") value) name is in
    let test = some-if (is_name read.0) (Some read.0) name read.2 in
    let same : read.0 ≡ name = cc in
    rw (← same) test.0

type_of-by : (a b : Bool) (ty : SqlType) → (if a then Some t.Int64 else if b then Some t.Text else None) ≡ Some ty → (ty ≡ t.Int64) ⊎ (ty ≡ t.Text)
type_of-by true b ty is = inl (cc)
type_of-by false true ty is = inr (cc)
type_of-by false false ty is = cc

type_at-type : (value : Data) (ty : SqlType) → type_at value ≡ Some ty → (ty ≡ t.Int64) ⊎ (ty ≡ t.Text)
type_at-type value ty is =
    let read = some-then type_of (text_at (codes "type") value) ty is in
    type_of-by (same_name (codes "INT64") read.0) (same_name (codes "STRING") read.0) ty read.2

parts-column : (name : Option (List ℕ)) (ty : Option SqlType) (column : Column) → column_parts name ty ≡ Some column
    → ((n : List ℕ) → name ≡ Some n → is_name n ≡ true) → ((s : SqlType) → ty ≡ Some s → (s ≡ t.Int64) ⊎ (s ≡ t.Text)) → IsSmallColumn column
parts-column None ty column is named typed = cc
parts-column (Some name) None column is named typed = cc
parts-column (Some name) (Some ty) column is named typed =
    let same : record { name = Some name; ty = ty } ≡ column = cc in
    rw (← same) ((name, refl, named name refl), typed ty refl)

column_of-small : (value : Data) (column : Column) → column_of value ≡ Some column → IsSmallColumn column
column_of-small value column is =
    let parts = some-if (has_keys 2 value) (column_parts (name_at value) (type_at value)) column is in
    parts-column (name_at value) (type_at value) column parts.1 (λ n. name_at-name value n) (λ s. type_at-type value s)

before-small : (column : Option Column) (rest : Option (List Column)) (columns : List Column) → before_columns column rest ≡ Some columns
    → ((c : Column) → column ≡ Some c → IsSmallColumn c) → ((cs : List Column) → rest ≡ Some cs → All IsSmallColumn cs) → All IsSmallColumn columns
before-small None rest columns is small more = cc
before-small (Some c) None columns is small more = cc
before-small (Some c) (Some cs) columns is small more =
    let same : c ∷ cs ≡ columns = cc in
    rw (← same) (All-cons IsSmallColumn c cs (small c refl) (more cs refl))

columns_of-small : (items : Items) (columns : List Column) → columns_of items ≡ Some columns → All IsSmallColumn columns
columns_of-small no_items columns is = let same : [] ≡ columns = cc in rw (← same) (λ k d lt. absurd (omega arith))
columns_of-small (item value items) columns is =
    before-small (column_of value) (columns_of items) columns is (λ c. column_of-small value c) (λ cs. columns_of-small items cs)

-- what the columns of a table are
record AreSmall (columns : List Column) : Type 0 where
  some : 1 ≤ length columns
  each : All IsSmallColumn columns
  distinct_names : distinct columns ≡ true

columns_at-small : (value : Data) (columns : List Column) → columns_at value ≡ Some columns → AreSmall columns
columns_at-small value columns is =
    let items = some-then all_columns (items_at (codes "columns") value) columns is in
    let read = some-then only_distinct (columns_of items.0) columns items.2 in
    let test = some-if (nat_le 1 (length read.0) && distinct read.0) (Some read.0) columns read.2 in
    let tests = both (nat_le 1 (length read.0)) (distinct read.0) test.0 in
    let same : read.0 ≡ columns = cc in
    rw (← same) (record {
      some = leb-true 1 (length read.0) tests.0;
      each = columns_of-small items.0 read.0 read.1;
      distinct_names = tests.1;
    })

parts-table : (name file : Option (List ℕ)) (columns : Option (List Column)) (table : TableDef) → table_parts name file columns ≡ Some table
    → ((n : List ℕ) → name ≡ Some n → is_name n ≡ true) → ((cs : List Column) → columns ≡ Some cs → AreSmall cs) → IsSmall table
parts-table None file columns table is named small = cc
parts-table (Some name) None columns table is named small = cc
parts-table (Some name) (Some file) None table is named small = cc
parts-table (Some name) (Some file) (Some columns) table is named small =
    let same : record { name = name; file = file; columns = columns } ≡ table = cc in
    let all = small columns refl in
    rw (← same) (record { named = named name refl; some = all.some; columns = all.each; distinct_names = all.distinct_names })

table_of-small : (value : Data) (table : TableDef) → table_of value ≡ Some table → IsSmall table
table_of-small value table is =
    let parts = some-if (has_keys 3 value) (table_parts (name_at value) (text_at (codes "file") value) (columns_at value)) table is in
    parts-table (name_at value) (text_at (codes "file") value) (columns_at value) table parts.1 (λ n. name_at-name value n) (λ cs. columns_at-small value cs)

catalog_in-small : (value : Data) (table : TableDef) → catalog_in value ≡ Some table → IsSmall table
catalog_in-small value table is =
    let form = some-if (has_form value) (option_and_then table_of (option_and_then only_item (items_at (codes "tables") value))) table is in
    let entry = some-then table_of (option_and_then only_item (items_at (codes "tables") value)) table form.1 in
    table_of-small entry.0 table entry.2

pub catalog_of-small : (bytes : List ℕ) (table : TableDef) → catalog_of bytes ≡ Some table → IsSmall table
unfolding catalog_of
catalog_of-small bytes table is =
    let value = some-then catalog_in (json_of bytes) table is in
    catalog_in-small value.0 table value.2
