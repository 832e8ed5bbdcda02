use Rattle.std.proofs.Common.{List, ◌∙◌, ap, sym, subst}
use Rattle.std.specs.List.{list_all}
use Rattle.std.specs.List.Sorted.{IsSortedBy}
use Rattle.std.specs.Ordering.{is_lt}
use Rattle.sql_types.specs.declared.kinds.SortItem.{SortItem}
use Rattle.sql_types.specs.Arranged.{Arranged}
use Rattle.sql_types.specs.Fits.{fits_row}
use Rattle.sql_types.specs.Joined.{Row}
use Rattle.sql_types.specs.Sorting.{whole_rows_order}
use Rattle.eval_rows.proofs.SortLaws.{sorted_fits, sorted_arranged}
use Rattle.eval_rows.proofs.sorting.sort_rows.Goals as goal

pub invariant_of-result : goal.invariant_of-result
invariant_of-result c = record {
  fitting =
      ap (list_all (fits_row c.args.rows.columns)) c.from_vec.ensures
      ∙ sorted_fits (fits_row c.args.rows.columns) c.args.rows.rows c.in_ok-moved.field-0.items c.in_order-sorted.result.items c.in_ok-moved.ensures c.in_order-sorted.ensures.permutation c.args.rows.fitting;
}

pub returns-clause-rows : goal.returns-clause-rows
returns-clause-rows c =
    let list = c.in_order-sorted.result.items in
    let sorted = subst (λ (items : List SortItem). IsSortedBy (λ a b. is_lt (whole_rows_order items a b)) list) c.as_slice.ensures c.in_order-sorted.ensures.sorted in
    subst (λ (z : List Row). Arranged c.args.items.now c.args.rows.rows z) (sym c.from_vec.ensures)
    (sorted_arranged c.args.items.now c.args.rows.columns c.args.rows.rows c.in_ok-moved.field-0.items list c.in_ok-moved.ensures c.in_order-sorted.ensures.permutation sorted c.args.rows.fitting c.requires)
