use Rattle.sql_aggregates.proofs.ChoosingLaws.{gone_over}
use Rattle.sql_aggregates.proofs.AddableLaws.{addable_among}
use Rattle.sql_aggregates.proofs.accumulator.Accumulator.finish.Goals as goal

pub answer-requires : goal.answer-requires
answer-requires c =
    addable_among c.self.inside.call c.self.inside.added.items c.goes_over-lists.result.items c.self.invariant
    (gone_over c.self.inside.call c.self.inside.added.items c.goes_over-lists.result.items c.goes_over-lists.ensures)
