-- The newest query among those left is the newest of all.
use Rattle.std.proofs.Common.{◌≡◌, ◌≤◌, length, take}
use Rattle.resolved_ast.specs.Flaws.{cte_types}
use Rattle.tree_check.specs.Sights.{ctes_of}
use Rattle.tree_check.proofs.with_nodes.cte_numbered.Given as goal

abbrev pub invariant-loop-left : goal.invariant-loop-left
invariant-loop-left l = record {
  most : l.left ≤ length l.ctes;
  same : cte_types l.number (ctes_of (take l.left l.ctes)) ≡ cte_types l.number (ctes_of l.ctes);
}

abbrev pub decreases-loop-left : goal.decreases-loop-left
decreases-loop-left l = l.left
