-- What the readers of this crate answer.
use Rattle.std.specs.Prelude.{◌≡◌, ℕ, List, Option, Some, None, Result, Ok, Err}
use Rattle.sql_types.specs.declared.value.Value.{Value}
use Rattle.csv_tables.specs.declared.refusal.CellRefusal.{CellRefusal}
use Rattle.csv_tables.specs.declared.refusal.CellRefusal.TheVariants as cell
use Rattle.csv_tables.specs.declared.refusal.RowRefusal.{RowRefusal}
use Rattle.csv_tables.specs.declared.refusal.RowRefusal.TheVariants as row
use Rattle.csv_tables.specs.declared.refusal.TableRefusal.{TableRefusal}
use Rattle.csv_tables.specs.declared.refusal.TableRefusal.TheVariants as table

-- what is read is what the bytes write, and a refusal says that they write nothing, where there is memory
abbrev pub Reads : {A : Type 0} → Option A → Result A CellRefusal → Type 0
Reads written (Ok x) = written ≡ Some x
Reads written (Err cell.NoValue) = written ≡ None
Reads written (Err cell.OutOfMemory) = Unit {0}

-- the same for a row, whose refusal has the first place at fault
abbrev pub ReadsRow : Result (List Value) ℕ → Result (List Value) RowRefusal → Type 0
ReadsRow written (Ok row) = written ≡ Ok row
ReadsRow written (Err (row.Fault field)) = written ≡ Err field
ReadsRow written (Err row.OutOfMemory) = Unit {0}

-- the refusal of a table has the record and the field of its first fault
abbrev pub IsFaultOf : {A : Type 0} → Result A (ℕ × ℕ) → TableRefusal → Type 0
IsFaultOf written (table.Fault row field) = written ≡ Err (row, field)
IsFaultOf written table.OutOfMemory = Unit {0}
