-- The part sees these columns.
use Rattle.std.proofs.Common.{subst}
use Rattle.resolved_ast.specs.Flaws.{Sight}
use Rattle.tree_check.specs.Walked.{Walked}
use Rattle.tree_check.proofs.part.check_over.Goals as goal

pub returns : goal.returns
returns g c =
    subst (λ (s : Sight). Walked (g.P.Part.walk c.args.part.now s c.args.progress.now) c.check.new.progress c.check.result) c.over-inside.ensures c.check.ensures
