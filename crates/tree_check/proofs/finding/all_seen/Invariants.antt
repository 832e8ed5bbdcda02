-- What the references left say, all say.
use Rattle.std.proofs.Common.{◌≡◌, drop}
use Rattle.resolved_ast.specs.Flaws as flaws
use Rattle.tree_check.specs.Sights.{columns_of}
use Rattle.tree_check.proofs.finding.all_seen.Given as goal

abbrev pub invariant-loop-column : goal.invariant-loop-column
invariant-loop-column l = flaws.all_seen (drop l.column-index l.list) (columns_of l.sources) ≡ flaws.all_seen l.list (columns_of l.sources)
