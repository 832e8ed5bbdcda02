-- No element so far is equal.
use Rattle.std.proofs.Common.{◌≡◌, drop}
use Rattle.sql_numbers.specs.Arrays as rows
use Rattle.sql_numbers.proofs.arrays.some_equal.Given as goal

abbrev pub invariant-loop-element : goal.invariant-loop-element
invariant-loop-element l = rows.some_equal l.value (drop l.element-index l.elements) ≡ rows.some_equal l.value l.elements
