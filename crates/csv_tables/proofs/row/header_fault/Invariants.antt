-- The fault of the places that are left, behind those before, is the header's.
use Rattle.std.proofs.Common.{◌≡◌, drop}
use Rattle.csv.specs.Records.{fields_of}
use Rattle.csv_tables.specs.Tables.{header_fault}
use Rattle.csv_tables.proofs.RowLaws.{shifted}
use Rattle.csv_tables.proofs.row.header_fault.Given as goal

abbrev pub invariant-loop-place : goal.invariant-loop-place
invariant-loop-place l = shifted l.place (header_fault (drop l.place l.columns) (drop l.place (fields_of l.cells))) ≡ header_fault l.columns (fields_of l.cells)
