-- What the references left say, all say.
use Rattle.std.proofs.Common.{◌≡◌, ◌++◌, drop}
use Rattle.resolved_ast.specs.Columns.{columns, computed_columns}
use Rattle.resolved_ast.specs.Flaws as flaws
use Rattle.tree_check.proofs.finding.all_listed.Given as goal

abbrev pub invariant-loop-column : goal.invariant-loop-column
invariant-loop-column l = flaws.all_seen (drop l.column-index l.column-items) (columns l.scan ++ computed_columns l.computed) ≡ flaws.all_seen l.list (columns l.scan ++ computed_columns l.computed)
