-- The elements that are left, turned, behind those so far, are all, turned.
use Rattle.std.proofs.Common.{◌≡◌, ◌≤◌, ◌++◌, reverse, length}
use Rattle.sql_numbers.proofs.joining.reversed.Given as goal

abbrev pub invariant-loop-rest : goal.invariant-loop-rest
invariant-loop-rest l = (l.copies ++ reverse l.rest ≡ reverse l.elements) × (length l.rest ≤ length l.elements)

abbrev pub decreases-loop-rest : goal.decreases-loop-rest
decreases-loop-rest l = length l.rest
