-- Of whatever type.
use Rattle.std.proofs.Common.{◌∙◌}
use Rattle.tree_check.specs.Sights.{source_columns}
use Rattle.tree_check.proofs.FindingLaws.{seen_such}
use Rattle.tree_check.proofs.finding.is_in.Goals as goal

pub returns : goal.returns
returns c = c.source_has.ensures ∙ seen_such c.args.wanted.now (source_columns c.args.source.now)
