-- The parts come one after another, behind the node.
use Rattle.std.proofs.Common.{[], ◌∷◌}
use Rattle.std.proofs.lemmas.Result.{err_from_is_err_and}
use Rattle.tree_check.specs.Orders.{order_of}
use Rattle.tree_check.specs.Sights.{sight_of}
use Rattle.tree_check.proofs.ThenLaws.{node_refused, node_later, node_passed, first_refused, first_passed, last_walked}
use Rattle.tree_check.proofs.nodes.above_both.Goals as goal

pub returns-in_err-pass : goal.returns-in_err-pass
returns-in_err-pass g c =
    let p = err_from_is_err_and c.from_residual.result c.from_residual.ensures.1 in
    rw (p.1, p.2) (node_refused (order_of c.args.order) [] ((g.P.Part.walk c.args.first.now (sight_of c.args.sight.now)) ∷ (g.Q.Part.walk c.args.second.now (sight_of c.args.sight.now)) ∷ []) c.args.progress.now c.in_err-pass.field-0.0 c.in_err-pass.ensures)

pub returns-in_err-check : goal.returns-in_err-check
returns-in_err-check g c =
    let p = err_from_is_err_and c.from_residual-in_err-check.result c.from_residual-in_err-check.ensures.1 in
    rw (p.1, p.2) (node_later (order_of c.args.order) [] ((g.P.Part.walk c.args.first.now (sight_of c.args.sight.now)) ∷ (g.Q.Part.walk c.args.second.now (sight_of c.args.sight.now)) ∷ []) c.args.progress.now c.pass.new.self c.in_err-check.field-0.0 c.in_ok-pass.ensures (first_refused (g.P.Part.walk c.args.first.now (sight_of c.args.sight.now)) ((g.Q.Part.walk c.args.second.now (sight_of c.args.sight.now)) ∷ []) c.pass.new.self c.in_err-check.field-0.0 c.in_err-check.ensures))

pub returns : goal.returns
returns g c = node_passed (order_of c.args.order) [] ((g.P.Part.walk c.args.first.now (sight_of c.args.sight.now)) ∷ (g.Q.Part.walk c.args.second.now (sight_of c.args.sight.now)) ∷ []) c.args.progress.now c.pass.new.self c.check-2.new.progress c.check-2.result c.in_ok-pass.ensures (first_passed (g.P.Part.walk c.args.first.now (sight_of c.args.sight.now)) ((g.Q.Part.walk c.args.second.now (sight_of c.args.sight.now)) ∷ []) c.pass.new.self c.check.new.progress c.check-2.new.progress c.check-2.result c.in_ok-check.ensures (last_walked (g.Q.Part.walk c.args.second.now (sight_of c.args.sight.now)) c.check.new.progress c.check-2.new.progress c.check-2.result c.check-2.ensures))
