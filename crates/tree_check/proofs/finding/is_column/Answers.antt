-- Of whatever type.
use Rattle.std.proofs.Common.{◌∙◌}
use Rattle.resolved_ast.specs.Columns.{columns}
use Rattle.tree_check.proofs.FindingLaws.{seen_such}
use Rattle.tree_check.proofs.finding.is_column.Goals as goal

pub returns : goal.returns
returns c = c.has_such.ensures ∙ seen_such c.args.wanted.now (columns c.args.scan.now)
