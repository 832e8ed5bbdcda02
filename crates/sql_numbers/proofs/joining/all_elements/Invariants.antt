-- The elements of the arrays that are left, behind those so far, are all.
use Rattle.std.proofs.Common.{◌≡◌, ◌++◌, drop}
use Rattle.sql_numbers.specs.Arrays as rows
use Rattle.sql_numbers.proofs.joining.all_elements.Given as goal

abbrev pub invariant-loop-array : goal.invariant-loop-array
invariant-loop-array l = l.all ++ rows.all_elements (drop l.array-index l.arrays) ≡ rows.all_elements l.arrays
