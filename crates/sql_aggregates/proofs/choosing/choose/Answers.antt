use Rattle.std.proofs.Common.{rules, ◌≡◌, true, sym, subst}
use Rattle.std.specs.List.{dedup}
use Rattle.std.specs.Ordering.{is_lt}
use Rattle.std.proofs.lemmas.Fn.{dedup_same, always_returns_same}
use Rattle.std.proofs.lemmas.List.Sorted.{ranks_by}
use Rattle.sql_aggregates.specs.Identity.{first_order}
use Rattle.sql_aggregates.specs.Lists.{Chosen}
use Rattle.sql_aggregates.proofs.IdentityLaws.{first_total}
use Rattle.sql_aggregates.proofs.ChoosingLaws.{same_first, one_of_each}
use Rattle.sql_aggregates.proofs.choosing.choose.Goals as goal

pub returns : goal.returns
returns c =
    let distinct : c.args.distinct ≡ true = search rules in
    let left : c.dedup_by.new.self.items ≡ dedup same_first c.sort_unstable_by.new.self.items
    = dedup_same _ _ _ (λ x y b f z w k. (search rules, search rules, search rules, search rules)) _ _ c.dedup_by.ensures.filtered in
    subst (λ b. Chosen b c.args.lists.items c.dedup_by.new.self.items) (sym distinct)
    (one_of_each c.args.lists.items c.sort_unstable_by.new.self.items c.dedup_by.new.self.items c.sort_unstable_by.ensures.permutation
    (c.sort_unstable_by.ensures.sorted (λ a b. is_lt (first_order a b)) (ranks_by first_total (λ list. list)) (always_returns_same _ _ _ (λ a r f k. (search rules, search rules))))
    left)
