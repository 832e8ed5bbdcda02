use Rattle.std.proofs.Common.{◌∙◌, ap, sym, map}
use Rattle.std.specs.List.{flat_map, list_all}
use Rattle.sql_types.specs.declared.kinds.SetKind.{SetKind}
use Rattle.sql_types.specs.Combined.{combined_count}
use Rattle.eval_rows.specs.Counts.{shown, rows_of, count, is_whole}
use Rattle.eval_rows.proofs.FitLaws.{append_pass}
use Rattle.eval_rows.proofs.SetLaws.{all_counts, once_of_all, if_ok}
use Rattle.eval_rows.proofs.sets.combined.Goals as goal

pub once-requires : goal.once-requires
once-requires c =
    let whole = is_whole c.args.columns.now in
    ap (λ z. list_all whole (shown z)) c.as_slice.ensures.value ∙ ap (list_all whole) c.in_ok-with_all-in-UnionDistinct.ensures
    ∙ append_pass whole (shown c.in_ok-list.list.items) (flat_map rows_of c.args.others.now) (ap (list_all whole) c.in_ok-list.ensures ∙ c.requires.first) c.requires.others

pub returns-in-UnionAll : goal.returns-in-UnionAll
returns-in-UnionAll c =
    let first = c.args.first.now.rows in
    let others = c.args.others.now in
    if_ok c.with_all.result
    (λ all is row. all_counts first (shown c.in_ok-list.list.items) (shown all.items) others c.in_ok-list.ensures is row
    ∙ sym (ap (λ (kind : SetKind). combined_count kind (count row first) (map (count row) (map rows_of others))) c.in-UnionAll.is))
    c.with_all.ensures

pub returns-in-UnionDistinct : goal.returns-in-UnionDistinct
returns-in-UnionDistinct c =
    let first = c.args.first.now.rows in
    let others = c.args.others.now in
    if_ok c.once.result
    (λ left counts row. once_of_all first (shown c.in_ok-list.list.items) (shown c.in_ok-with_all-in-UnionDistinct.field-0.items) (shown c.as_slice.result.now) (shown left.items) others c.in_ok-list.ensures
    c.in_ok-with_all-in-UnionDistinct.ensures (ap shown c.as_slice.ensures.value) counts row
    ∙ sym (ap (λ (kind : SetKind). combined_count kind (count row first) (map (count row) (map rows_of others))) c.in-UnionDistinct.is))
    c.once.ensures.counts
