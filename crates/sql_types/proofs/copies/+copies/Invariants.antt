-- The copies so far are the first of the values, or of the fields.
use Rattle.std.proofs.Common.{◌≡◌, take}
use Rattle.sql_types.proofs.copies.+copies.Given as goal

abbrev pub invariant-copy_values-loop-value : goal.invariant-copy_values-loop-value
invariant-copy_values-loop-value l = l.copies ≡ take l.value-index l.values
