-- There is one where the first is found.
use Rattle.std.proofs.Common.{ap, ◌∙◌}
use Rattle.std.specs.Prelude.{is_some}
use Rattle.resolved_ast.specs.Columns.{columns}
use Rattle.tree_check.specs.Tests.{passes}
use Rattle.tree_check.proofs.FindingLaws.{some_such}
use Rattle.tree_check.proofs.finding.has_such.Goals as goal

pub returns : goal.returns
returns c = c.is_there.ensures ∙ ap is_some c.find.ensures ∙ some_such c.args.wanted.now (passes c.args.asked.now) (columns c.args.scan.now)
