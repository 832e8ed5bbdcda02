-- Of whatever type.
use Rattle.std.proofs.Common.{◌∙◌}
use Rattle.tree_check.specs.Sights.{columns_of}
use Rattle.tree_check.proofs.FindingLaws.{seen_such}
use Rattle.tree_check.proofs.finding.sees.Goals as goal

pub returns : goal.returns
returns c = c.sees_such.ensures ∙ seen_such c.args.wanted.now (columns_of c.args.sources.now)
