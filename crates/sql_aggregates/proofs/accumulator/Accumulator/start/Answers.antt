use Rattle.std.proofs.Common.{sym, subst}
use Rattle.sql_aggregates.specs.Calls.{AllAddable}
use Rattle.sql_aggregates.proofs.AddableLaws.{none_addable}
use Rattle.sql_aggregates.proofs.accumulator.Accumulator.start.Goals as goal

pub invariant_of-result : goal.invariant_of-result
invariant_of-result c = subst (λ lists. AllAddable c.in_ok-copy_call.field-0 lists) (sym c.new.ensures.items) (none_addable c.in_ok-copy_call.field-0)
