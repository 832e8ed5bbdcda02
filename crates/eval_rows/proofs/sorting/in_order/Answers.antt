use Rattle.std.proofs.Common.{rules}
use Rattle.std.specs.Ordering.{is_lt}
use Rattle.std.proofs.lemmas.Fn.{always_returns_same}
use Rattle.sql_types.specs.Sorting.{whole_rows_order}
use Rattle.sql_types.proofs.OrderLaws.{whole_rows_ranks}
use Rattle.eval_rows.proofs.sorting.in_order.Goals as goal

pub returns-clause-sorted : goal.returns-clause-sorted
returns-clause-sorted c =
    let items = c.args.items.now in
    c.sort_unstable_by.ensures.sorted (λ a b. is_lt (whole_rows_order items a b)) (whole_rows_ranks items) (always_returns_same _ _ _ (λ a r f k. search rules))
