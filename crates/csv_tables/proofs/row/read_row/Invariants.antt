-- The rest of the row, behind the values so far, is the row.
use Rattle.std.proofs.Common.{◌≡◌, drop}
use Rattle.csv.specs.Records.{fields_of}
use Rattle.csv_tables.specs.Tables.{row_of}
use Rattle.csv_tables.proofs.RowLaws.{onto}
use Rattle.csv_tables.proofs.row.read_row.Given as goal

abbrev pub invariant-loop-place : goal.invariant-loop-place
invariant-loop-place l = onto l.values l.place (row_of (drop l.place l.columns) (drop l.place (fields_of l.cells))) ≡ row_of l.columns (fields_of l.cells)
