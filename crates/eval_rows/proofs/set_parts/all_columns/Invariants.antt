-- The values in the columns so far are the first of a row.
use Rattle.std.proofs.Common.{◌≡◌, ◌≤◌, length, take}
use Rattle.sql_types.specs.Joined.{Row}
use Rattle.key_classes.specs.Classes.{key_of}
use Rattle.eval_rows.proofs.set_parts.all_columns.Given as goal

abbrev pub invariant-loop-column : goal.invariant-loop-column
invariant-loop-column l = (row : Row) → l.column ≤ length row → key_of l.columns.items row ≡ take l.column row
