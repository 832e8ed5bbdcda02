-- The numbers of the columns from a place on are new, and added.
use Rattle.std.proofs.Common.{◌≡◌, ◌≤◌, ◌++◌, true, length, drop}
use Rattle.resolved_ast.specs.Columns.{numbers}
use Rattle.resolved_ast.specs.Flaws.{are_new}
use Rattle.tree_check.proofs.progress.add_all.Given as goal

abbrev pub invariant-loop-left : goal.invariant-loop-left
invariant-loop-left l = record {
  most : l.left ≤ length l.made;
  new : are_new (numbers (drop l.left l.made)) l.initial.known ≡ true;
  known : l.known ≡ numbers (drop l.left l.made) ++ l.initial.known;
}

abbrev pub decreases-loop-left : goal.decreases-loop-left
decreases-loop-left l = l.left
