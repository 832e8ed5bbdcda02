use Rattle.std.proofs.Common.{◌≡◌, true, false, refl}
use Rattle.small_run.proofs.Whole.{by_first, joined_refused}
use Rattle.small_run.proofs.from.is_table.Goals as goal

pub returns-then-is_empty : goal.returns-then-is_empty
returns-then-is_empty c = by_first c.args.table.now c.args.from.now c.is_named_table.result (c.if-is_empty.ensures.0 refl) c.is_named_table.ensures

pub returns-else-is_empty : goal.returns-else-is_empty
returns-else-is_empty c = rw c.if-is_empty.false (joined_refused c.args.table.now c.args.from.now (λ alone. let wrong : false ≡ true = c.if-is_empty.ensures.1 alone in absurd cc))
