-- What the sources left have, all have.
use Rattle.std.proofs.Common.{◌≡◌, drop}
use Rattle.resolved_ast.specs.Flaws as flaws
use Rattle.tree_check.specs.Sights.{columns_of}
use Rattle.tree_check.specs.Tests.{passes}
use Rattle.tree_check.proofs.finding.sees_such.Given as goal

abbrev pub invariant-loop-source : goal.invariant-loop-source
invariant-loop-source l = flaws.sees_such l.wanted (passes l.asked) (columns_of (drop l.source-index l.sources)) ≡ flaws.sees_such l.wanted (passes l.asked) (columns_of l.sources)
