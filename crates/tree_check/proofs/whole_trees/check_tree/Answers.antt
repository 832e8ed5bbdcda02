-- The walk begins with nothing before it and nothing in sight.
use Rattle.std.proofs.Common.{ap, ◌∙◌}
use Rattle.resolved_ast.specs.Flaws.{in_order}
use Rattle.tree_check.specs.Orders.{order_of}
use Rattle.tree_check.proofs.WholeLaws.{passes_whole}
use Rattle.tree_check.proofs.whole_trees.check_tree.Goals as goal

pub returns : goal.returns
returns c =
    passes_whole c.args.tree.now (order_of c.by_sight-order.result) c.start-progress.result c.above.new.progress c.above.result
    (c.by_sight-order.ensures ∙ ap (λ b. record in_order { seen = b }) c.all_outputs.ensures) c.start-progress.ensures c.above.ensures
