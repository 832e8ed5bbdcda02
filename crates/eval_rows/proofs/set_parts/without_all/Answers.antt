use Rattle.std.proofs.Common.{◌++◌, ◌-◌, ◌∙◌, ap}
use Rattle.std.specs.List.{flat_map, list_all}
use Rattle.eval_rows.specs.Counts.{shown, rows_of, count, is_whole}
use Rattle.eval_rows.proofs.CountLaws.{count_flat}
use Rattle.eval_rows.proofs.SetLaws.{if_ok}
use Rattle.eval_rows.proofs.set_parts.without_all.Goals as goal

pub partnered-requires : goal.partnered-requires
partnered-requires c =
    let whole = is_whole c.args.columns.now in
    record {
      list = c.requires.list;
      others = ap (λ z. list_all whole (shown z)) c.as_slice.ensures.value ∙ ap (list_all whole) c.in_ok-others.ensures
          ∙ ap (λ z. list_all whole (shown z ++ flat_map rows_of c.args.operands.now)) c.new.ensures.items ∙ c.requires.operands;
    }

pub returns : goal.returns
returns c =
    if_ok c.partnered.result
    (λ left counts row. counts row
    ∙ ap (λ n. count row (shown c.args.list.now) - n)
    (ap (λ z. count row (shown z)) c.as_slice.ensures.value ∙ ap (count row) c.in_ok-others.ensures
    ∙ ap (λ z. count row (shown z ++ flat_map rows_of c.args.operands.now)) c.new.ensures.items ∙ count_flat rows_of row c.args.operands.now))
    c.partnered.ensures.counts
