use Rattle.std.proofs.Common.{rules}
use Rattle.std.specs.Ordering.{is_lt}
use Rattle.std.proofs.lemmas.Fn.{always_returns_same}
use Rattle.sql_types.specs.Sorting.{whole_rows_order}
use Rattle.sql_types.proofs.OrderLaws.{whole_rows_ranks}
use Rattle.sql_aggregates.proofs.ChoosingLaws.{arranged_by}
use Rattle.sql_aggregates.proofs.choosing.arrange.Goals as goal

pub returns : goal.returns
returns c =
    arranged_by c.args.items.now c.args.lists.items c.sort_unstable_by.new.self.items c.requires c.sort_unstable_by.ensures.permutation
    (c.sort_unstable_by.ensures.sorted (λ a b. is_lt (whole_rows_order c.args.items.now a b)) (whole_rows_ranks c.args.items.now)
    (always_returns_same _ _ _ (λ a r f k. (search rules, search rules))))
