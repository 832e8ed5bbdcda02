-- What the references left say, all say.
use Rattle.std.proofs.Common.{◌≡◌, drop}
use Rattle.resolved_ast.specs.Flaws as flaws
use Rattle.tree_check.specs.Sights.{source_columns}
use Rattle.tree_check.proofs.finding.all_columns.Given as goal

abbrev pub invariant-loop-column : goal.invariant-loop-column
invariant-loop-column l = flaws.all_seen (drop l.column-index l.list) (source_columns l.source) ≡ flaws.all_seen l.list (source_columns l.source)
