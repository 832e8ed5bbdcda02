use Rattle.std.proofs.Common.{[], ◌∷◌}
use Rattle.eval_groups.proofs.AggregableLaws.{groups_within}
use Rattle.eval_groups.proofs.separator_tests.grouped_texts.Goals as goal

pub one_separator_each-requires : goal.one_separator_each-requires
one_separator_each-requires c = groups_within c.in_ok-rows.rows (0 ∷ []) c.in_ok-groups.groups c.in_ok-groups.ensures

pub joined-requires-clause-members : goal.joined-requires-clause-members
joined-requires-clause-members c = groups_within c.in_ok-rows.rows (0 ∷ []) c.in_ok-groups.groups c.in_ok-groups.ensures
