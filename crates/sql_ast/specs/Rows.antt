-- The text of an answer's rows.
use Rattle.std.specs.Prelude.{ℕ, List, [], ◌∷◌, ◌++◌, map, length, codes, decimal}
use Rattle.sql_names.specs.Commas.{joined}
use Rattle.sql_types.specs.declared.sql_type.Named.{Named}
use Rattle.sql_types.specs.declared.sql_type.SqlType.{SqlType}
use Rattle.sql_types.specs.declared.value.Value.{Value}
use Rattle.sql_types.specs.TypeText.{column_text}
use Rattle.sql_ast.specs.Literals.{LiteralText}

-- one line: the columns
abbrev pub header_text : List (Named SqlType) → List ℕ
header_text columns = joined (map column_text columns) ++ 10 ∷ []

-- one line: the values of a row
abbrev pub row_text : List Value → List ℕ
row_text row = joined (map LiteralText row) ++ 10 ∷ []

abbrev pub rows_lines : List (List Value) → List ℕ
rows_lines [] = []
rows_lines (row ∷ rows) = row_text row ++ rows_lines rows

-- the last line: how many rows there are
abbrev pub count_text : ℕ → List ℕ
count_text n = codes "rows=" ++ decimal n ++ 10 ∷ []

-- The header, one line a row, and the number of rows. Every line ends in a line feed.
abbrev pub RowsText : List (Named SqlType) → List (List Value) → List ℕ
RowsText columns rows = (header_text columns ++ rows_lines rows) ++ count_text (length rows)
