-- The catalog of the worked examples: tables t(a INT64, b STRING), e(k INT64) and p(s STRING, q STRING, n INT64).
use Rattle.std.proofs.Common.{ℕ, pos, List, [], ◌∷◌, codes, None, Some}
use Rattle.sql_types.specs.declared.sql_type.Named.{Named}
use Rattle.sql_types.specs.declared.sql_type.SqlType.{SqlType}
use Rattle.sql_types.specs.declared.sql_type.SqlType.TheVariants as ty
use Rattle.sql_types.specs.declared.value.Value.{Value}
use Rattle.sql_types.specs.declared.value.Value.TheVariants as v
use Rattle.sql_catalog.specs.declared.entries.Entries.{Entries}
use Rattle.sql_catalog.specs.declared.entries.TableDef.{TableDef}

abbrev pub column_of : List ℕ → SqlType → Named SqlType
column_of name type = record { name = Some name; ty = type }

-- a column without a name
abbrev pub unnamed : SqlType → Named SqlType
unnamed type = record { name = None; ty = type }

abbrev pub table_t : TableDef
table_t = record { name = codes "t"; file = codes "t.csv"; columns = column_of (codes "a") ty.Int64 ∷ column_of (codes "b") ty.Text ∷ [] }

abbrev pub table_e : TableDef
table_e = record { name = codes "e"; file = codes "e.csv"; columns = column_of (codes "k") ty.Int64 ∷ [] }

abbrev pub table_p : TableDef
table_p = record { name = codes "p"; file = codes "p.csv"; columns = column_of (codes "s") ty.Text ∷ column_of (codes "q") ty.Text ∷ column_of (codes "n") ty.Int64 ∷ [] }

abbrev pub three_tables : Entries
three_tables = record { tables = table_t ∷ table_e ∷ table_p ∷ []; definitions = []; params = [] }

-- the rows of t: (1, 'x'), (2, 'y'), (2, NULL), (NULL, 'z'); e has none
abbrev pub rows_of_t : List (List Value)
rows_of_t =
    (v.Int (pos 1) ∷ v.Text (codes "x") ∷ []) ∷ (v.Int (pos 2) ∷ v.Text (codes "y") ∷ []) ∷ (v.Int (pos 2) ∷ v.Null ∷ []) ∷ (v.Null ∷ v.Text (codes "z") ∷ []) ∷ []

abbrev pub three_rows : List (List (List Value))
three_rows = rows_of_t ∷ [] ∷ [] ∷ []
