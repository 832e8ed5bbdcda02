-- What the outputs left say, all say.
use Rattle.std.proofs.Common.{◌≡◌, drop}
use Rattle.resolved_ast.specs.Columns.{columns}
use Rattle.resolved_ast.specs.Flaws as flaws
use Rattle.tree_check.proofs.finding.all_outputs.Given as goal

abbrev pub invariant-loop-output : goal.invariant-loop-output
invariant-loop-output l = flaws.all_outputs (drop l.output-index l.output-items) (columns l.scan) ≡ flaws.all_outputs l.outputs (columns l.scan)
