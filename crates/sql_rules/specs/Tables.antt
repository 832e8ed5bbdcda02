-- Tables of the catalog as items of FROM.
use Rattle.std.specs.Prelude.{ℕ, ◌+◌, if◌then◌else◌, List, [], ◌∷◌, ◌++◌, Option, None, Some}
use Rattle.sql_types.specs.declared.sql_type.Named.{Named}
use Rattle.sql_types.specs.declared.sql_type.SqlType.{SqlType}
use Rattle.sql_types.specs.declared.value.Value.{Value}
use Rattle.sql_types.specs.declared.value.Value.TheVariants.{Null}
use Rattle.sql_names.specs.Words.{same_name}
use Rattle.sql_catalog.specs.declared.entries.TableDef.{TableDef}
use Rattle.sql_rules.specs.declared.scope.Entry.{Entry}
use Rattle.sql_rules.specs.declared.scope.Member.{Member}
use Rattle.sql_rules.specs.declared.scope.What.TheVariants as what

-- the rows of each table, by its number in the catalog
abbrev pub Tables : Type 0
Tables = List (List (List Value))

-- the number and the definition of the first table of this name, counted from a number on
abbrev pub table_from : ℕ → List TableDef → List ℕ → Option (ℕ × TableDef)
table_from at [] name = None
table_from at (t ∷ ts) name = if same_name t.name name then Some (at, t) else table_from (at + 1) ts name

abbrev pub column_entries : List (Named SqlType) → List Entry
column_entries [] = []
column_entries (c ∷ cs) = record { name = c.name; what = what.Column; ty = Some c.ty } ∷ column_entries cs

abbrev pub members_from : ℕ → List (Named SqlType) → List Member
members_from at [] = []
members_from at (c ∷ cs) = record { name = c.name; slot = at } ∷ members_from (at + 1) cs

-- A table in FROM gives its columns, and its range variable, which reaches them.
abbrev pub table_scope : List ℕ → List (Named SqlType) → List Entry
table_scope range columns = column_entries columns ++ record { name = Some range; what = what.Range (members_from 0 columns); ty = None } ∷ []

-- a row has a value per entry; that of the range variable is never read
abbrev pub table_values : List Value → List Value
table_values row = row ++ Null ∷ []
