-- The parts come one after another, behind the node.
use Rattle.std.proofs.Common.{[], ◌∷◌}
use Rattle.std.proofs.lemmas.Result.{err_from_is_err_and}
use Rattle.resolved_ast.specs.Flaws.{below}
use Rattle.tree_check.specs.Orders.{order_of}
use Rattle.tree_check.specs.Sights.{sight_of}
use Rattle.tree_check.proofs.ThenLaws.{node_refused, node_passed, last_walked}
use Rattle.tree_check.proofs.nodes.above_query.Goals as goal

pub returns-in_err-pass : goal.returns-in_err-pass
returns-in_err-pass g c =
    let p = err_from_is_err_and c.from_residual.result c.from_residual.ensures.1 in
    rw (p.1, p.2) (node_refused (order_of c.args.order) [] ((g.P.Part.walk c.args.query.now (below (sight_of c.args.sight.now))) ∷ []) c.args.progress.now c.in_err-pass.field-0.0 c.in_err-pass.ensures)

pub returns : goal.returns
returns g c = node_passed (order_of c.args.order) [] ((g.P.Part.walk c.args.query.now (below (sight_of c.args.sight.now))) ∷ []) c.args.progress.now c.pass.new.self c.check_below.new.progress c.check_below.result c.in_ok-pass.ensures (last_walked (g.P.Part.walk c.args.query.now (below (sight_of c.args.sight.now))) c.pass.new.self c.check_below.new.progress c.check_below.result c.check_below.ensures)
