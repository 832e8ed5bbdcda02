use Rattle.csv.specs.Records.{fields_of}
use Rattle.csv_tables.proofs.FitLaws.{row_of-fits}
use Rattle.csv_tables.proofs.table.read_rows.Goals as goal

pub add-requires : goal.add-requires
add-requires c = row_of-fits c.records.rows.columns (fields_of c.read_next.new.cells) c.in-Ok.row (rw c.as_slice.ensures at c.in-Ok.ensures)
