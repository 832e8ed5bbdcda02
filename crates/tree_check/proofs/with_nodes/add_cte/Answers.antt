-- One query more.
use Rattle.std.proofs.Common.{ap, ◌∙◌}
use Rattle.tree_check.specs.Sights.{ctes_of}
use Rattle.tree_check.proofs.CteLaws.{ctes_push}
use Rattle.tree_check.proofs.with_nodes.add_cte.Goals as goal

pub returns : goal.returns
returns c = ap ctes_of c.in_ok-push.ensures.items ∙ ctes_push c.args.seen.now.items c.args.cte
