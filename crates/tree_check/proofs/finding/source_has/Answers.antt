-- There is one where the first is found.
use Rattle.std.proofs.Common.{ap, ◌∙◌}
use Rattle.std.specs.Prelude.{is_some}
use Rattle.tree_check.specs.Sights.{source_columns}
use Rattle.tree_check.specs.Tests.{passes}
use Rattle.tree_check.proofs.FindingLaws.{some_such}
use Rattle.tree_check.proofs.finding.source_has.Goals as goal

pub returns : goal.returns
returns c = c.is_there.ensures ∙ ap is_some c.find_in.ensures ∙ some_such c.args.wanted.now (passes c.args.asked.now) (source_columns c.args.source.now)
