-- The bindings come behind the node.
use Rattle.std.proofs.lemmas.Result.{err_from_is_err_and}
use Rattle.std.proofs.Common.{[]}
use Rattle.tree_check.specs.LetWalks.{let_of}
use Rattle.tree_check.specs.Orders.{order_of}
use Rattle.tree_check.specs.Sights.{sight_of}
use Rattle.tree_check.proofs.ThenLaws.{node_refused, node_passed}
use Rattle.tree_check.proofs.nodes.above_bindings.Goals as goal

pub returns-in_err-pass : goal.returns-in_err-pass
returns-in_err-pass g c =
    let p = err_from_is_err_and c.from_residual.result c.from_residual.ensures.1 in
    rw (p.1, p.2) (node_refused (order_of c.args.order) [] (let_of g.R.Typed.type_of g.R.Part.walk g.P.Part.walk c.args.bindings.now c.args.expr.now (sight_of c.args.sight.now)) c.args.progress.now c.in_err-pass.field-0.0 c.in_err-pass.ensures)

pub returns : goal.returns
returns g c =
    node_passed (order_of c.args.order) [] (let_of g.R.Typed.type_of g.R.Part.walk g.P.Part.walk c.args.bindings.now c.args.expr.now (sight_of c.args.sight.now)) c.args.progress.now c.pass.new.self c.check_bindings.new.progress c.check_bindings.result
    c.in_ok-pass.ensures (rw (← c.as_slice.ensures) c.check_bindings.ensures)
