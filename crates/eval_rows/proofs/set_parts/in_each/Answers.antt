use Rattle.std.proofs.Common.{◌∙◌, ap}
use Rattle.std.specs.Prelude.{min}
use Rattle.std.specs.List.{list_all}
use Rattle.eval_rows.specs.Counts.{shown, count, is_whole}
use Rattle.eval_rows.proofs.SetLaws.{in_one_more, operand_passes}
use Rattle.eval_rows.proofs.set_parts.in_each.Goals as goal

pub partnered-requires : goal.partnered-requires
partnered-requires c =
    let whole = is_whole c.args.columns.now in
    record {
      list = ap (λ z. list_all whole (shown z)) c.as_slice.ensures.value ∙ c.loop-operand.invariant.whole;
      others = ap (λ z. list_all whole (shown z)) c.as_slice-in-loop-operand.ensures.value ∙ ap (list_all whole) c.in_ok-others.ensures
          ∙ operand_passes whole c.args.operands.now c.loop-operand.operand-index c.operand-item.result c.loop-operand-test.true c.operand-item.is c.requires.operands;
    }

pub loop-operand-preserved : goal.loop-operand-preserved
loop-operand-preserved c = record {
  whole = c.in_ok-list.ensures.whole;
  counts = λ row.
      in_one_more row (shown c.args.list.items) (shown c.loop-operand.list.items) (shown c.in_ok-list.list.items) (shown c.in_ok-others.others.items) c.args.operands.now c.loop-operand.operand-index
      c.operand-item.result c.loop-operand-test.true c.operand-item.is c.in_ok-others.ensures (c.loop-operand.invariant.counts row)
      (c.in_ok-list.ensures.counts row ∙ ap (λ z. min (count row (shown z)) (count row (shown c.as_slice-in-loop-operand.result.now))) c.as_slice.ensures.value
      ∙ ap (λ z. min (count row (shown c.loop-operand.list.items)) (count row (shown z))) c.as_slice-in-loop-operand.ensures.value);
}
