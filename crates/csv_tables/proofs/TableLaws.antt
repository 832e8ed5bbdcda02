-- The rows of a table, one record after the other.
use Rattle.std.proofs.Common.{List, ◌++◌}
use Rattle.std.specs.Prelude.{Ok, Err}
use Rattle.sql_types.specs.declared.value.Value.{Value}
use Rattle.csv_tables.specs.Tables.{Read}

-- rows before the rest of the rows
abbrev pub after_rows : List (List Value) → Read → Read
after_rows rows (Ok rest) = Ok (rows ++ rest)
after_rows rows (Err fault) = Err fault
