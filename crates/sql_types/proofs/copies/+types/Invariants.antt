-- The copies so far are the first of the fields.
use Rattle.std.proofs.Common.{◌≡◌, take}
use Rattle.sql_types.proofs.copies.+types.Given as goal

abbrev pub invariant-copy_columns-loop-column : goal.invariant-copy_columns-loop-column
invariant-copy_columns-loop-column l = l.copies ≡ take l.column-index l.columns
