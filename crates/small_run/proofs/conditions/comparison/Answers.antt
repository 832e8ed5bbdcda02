use Rattle.small_run.proofs.Terms.{other_operator}
use Rattle.small_run.proofs.conditions.comparison.Goals as goal

pub returns-in_default : goal.returns-in_default
returns-in_default c = other_operator c.args.table.now c.args.left.now c.args.right.now c.args.operator c.in_default.not-Equal
