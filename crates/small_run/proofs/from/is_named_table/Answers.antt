use Rattle.small_run.proofs.Whole.{by_name, not_table}
use Rattle.small_run.proofs.from.is_named_table.Goals as goal

pub returns-in-Some : goal.returns-in-Some
returns-in-Some c = by_name c.args.table.now c.args.primary.now c.in-Some.name.now c.in-Some.ensures.0 c.same_name.result c.in-Some.ensures.1 c.same_name.ensures

pub returns-in-None : goal.returns-in-None
returns-in-None c = not_table c.args.table.now c.args.primary.now c.in-None.ensures
