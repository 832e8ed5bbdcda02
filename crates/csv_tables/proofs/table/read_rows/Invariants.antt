-- The rows that are left, behind those so far, are all the rows.
use Rattle.std.proofs.Common.{◌≡◌, ◌+◌, length}
use Rattle.csv_tables.specs.Records.{IsReading, records_left}
use Rattle.csv_tables.specs.Tables.{rows_from}
use Rattle.csv_tables.proofs.TableLaws.{after_rows}
use Rattle.csv_tables.proofs.table.read_rows.Given as goal

abbrev pub invariant-records : goal.invariant-records
invariant-records l = record {
  reading : IsReading l.reader;
  columns : l.rows.columns ≡ l.fn.rows.columns;
  same : after_rows l.rows.rows (rows_from l.fn.rows.columns (length l.rows.rows + 1) (records_left l.reader)) ≡ rows_from l.fn.rows.columns 1 (records_left l.fn.reader);
}

abbrev pub decreases-records : goal.decreases-records
decreases-records l = length (records_left l.reader)
