use Rattle.std.proofs.Common.{ℕ, ◌<◌, sym, subst}
use Rattle.std.specs.List.{All}
use Rattle.eval_groups.specs.declared.groups.Group.{Group}
use Rattle.eval_groups.proofs.TestLaws.{all_none, one_more}
use Rattle.eval_groups.proofs.tests.groups_of.Goals as goal

pub loop-list-init : goal.loop-list-init
loop-list-init c = subst (All (λ (group : Group). All (λ (number : ℕ). number < c.args.count) group.rows)) (sym c.new-groups.ensures) (all_none (λ (group : Group). All (λ (number : ℕ). number < c.args.count) group.rows))

pub loop-list-preserved : goal.loop-list-preserved
loop-list-preserved c =
    one_more (λ (group : Group). All (λ (number : ℕ). number < c.args.count) group.rows) c.loop-list.groups c.push.new.self _ c.loop-list.invariant c.in_ok-rows.ensures c.in_ok-push.ensures.ok
