-- The rows of a table file, or its first fault.
use Rattle.std.specs.Prelude.{ℕ, suc, Bool, false, if◌then◌else◌, List, [], ◌∷◌, Option, Some, None, option_map, Result, Ok, Err}
use Rattle.sql_names.specs.Words.{same_name}
use Rattle.sql_types.specs.declared.sql_type.Named.{Named}
use Rattle.sql_types.specs.declared.sql_type.SqlType.{SqlType}
use Rattle.sql_types.specs.declared.value.Value.{Value}
use Rattle.csv_tables.specs.Cells.{cell_of}
use Rattle.csv_tables.specs.Records.{records_of}

-- the value at a place before the rest of its row; places are counted from 0
abbrev pub before_row : Option Value → Result (List Value) ℕ → Result (List Value) ℕ
before_row None rest = Err 0
before_row (Some value) (Ok values) = Ok (value ∷ values)
before_row (Some value) (Err place) = Err (suc place)

-- the values of a record, or its first place at fault
abbrev pub row_of : List (Named SqlType) → List (List ℕ) → Result (List Value) ℕ
row_of [] [] = Ok []
-- a field too many
row_of [] (cell ∷ cells) = Err 0
-- a missing field
row_of (column ∷ columns) [] = Err 0
row_of (column ∷ columns) (cell ∷ cells) = before_row (cell_of column.ty cell) (row_of columns cells)

-- the cell is the name, and no cell is the name of a column that has none
abbrev pub names : Option (List ℕ) → List ℕ → Bool
names None cell = false
names (Some name) cell = same_name name cell

-- the first place at fault of record 0, which holds the names of the columns in order
abbrev pub header_fault : List (Named SqlType) → List (List ℕ) → Option ℕ
header_fault [] [] = None
-- a field too many
header_fault [] (cell ∷ cells) = Some 0
-- a missing field
header_fault (column ∷ columns) [] = Some 0
header_fault (column ∷ columns) (cell ∷ cells) = if names column.name cell then option_map suc (header_fault columns cells) else Some 0

-- the rows, or the numbers of the record and of the field at fault
abbrev pub Read : Type 0
Read = Result (List (List Value)) (ℕ × ℕ)

-- the row of the record of that number before the rest of the rows
abbrev pub before_rows : ℕ → Result (List Value) ℕ → Read → Read
before_rows number (Err field) rest = Err (number, field)
before_rows number (Ok row) (Ok rows) = Ok (row ∷ rows)
before_rows number (Ok row) (Err fault) = Err fault

-- the rows of the records from that number on
abbrev pub rows_from : List (Named SqlType) → ℕ → List (List (List ℕ)) → Read
rows_from columns number [] = Ok []
rows_from columns number (cells ∷ records) = before_rows number (row_of columns cells) (rows_from columns (suc number) records)

abbrev pub under_header : Option ℕ → Read → Read
under_header (Some field) rows = Err (0, field)
under_header None rows = rows

abbrev pub table_of : List (Named SqlType) → List (List (List ℕ)) → Read
-- a file with no record has no header
table_of columns [] = Err (0, 0)
table_of columns (header ∷ records) = under_header (header_fault columns header) (rows_from columns 1 records)

-- the rows of a table file, or the record and the field of its first fault
unfoldable pub TableOf : List (Named SqlType) → List ℕ → Read
TableOf columns bytes = table_of columns (records_of bytes)
