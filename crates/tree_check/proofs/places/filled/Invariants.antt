-- The places so far are the slots, and then the last of them again and again.
use Rattle.std.proofs.Common.{◌≡◌, ◌≤◌, ◌-◌, ◌++◌, length, vec_len}
use Rattle.std.specs.Prelude.{replicate}
use Rattle.tree_check.proofs.places.filled.Given as goal

abbrev pub invariant-loop-last : goal.invariant-loop-last
invariant-loop-last l = record {
  least : length l.slots ≤ vec_len l.places;
  most : vec_len l.places ≤ l.count;
  same : l.places.items ≡ l.slots ++ replicate (vec_len l.places - length l.slots) l.last;
}

abbrev pub decreases-loop-last : goal.decreases-loop-last
decreases-loop-last l = l.count - vec_len l.places
