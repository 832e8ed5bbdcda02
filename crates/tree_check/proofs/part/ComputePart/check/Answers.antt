-- The expression comes behind the node.
use Rattle.std.proofs.Common.{[], ◌∷◌, ap, sym, ◌∙◌}
use Rattle.std.proofs.lemmas.Result.{err_from_is_err_and}
use Rattle.sql_types.specs.declared.sql_type.SqlType.{SqlType}
use Rattle.sql_types.specs.SameType.{same_type}
use Rattle.resolved_ast.specs.Flaws.{Order, in_order, at_node}
use Rattle.tree_check.specs.Orders.{order_of}
use Rattle.tree_check.specs.Sights.{sight_of}
use Rattle.tree_check.proofs.ThenLaws.{answers, refuses, node_refused, node_passed, last_walked}
use Rattle.tree_check.proofs.part.ComputePart.check.Goals as goal

pub returns-in_err-pass : goal.returns-in_err-pass
returns-in_err-pass g c =
    let p = err_from_is_err_and c.from_residual.result c.from_residual.ensures.1 in
    rw (p.1, p.2) (refuses
    (at_node (record in_order { typed = same_type c.args.self.now.column.ty (g.R.Typed.type_of c.args.self.now.expr) }) (c.args.self.now.column ∷ []) (g.R.Part.walk c.args.self.now.expr (sight_of c.args.sight.now) ∷ []) c.args.progress.now)
    (at_node (order_of c.by_type.result) (c.args.self.now.column ∷ []) (g.R.Part.walk c.args.self.now.expr (sight_of c.args.sight.now) ∷ []) c.args.progress.now)
    c.in_err-pass.field-0.0
    (ap (λ (o : Order). at_node o (c.args.self.now.column ∷ []) (g.R.Part.walk c.args.self.now.expr (sight_of c.args.sight.now) ∷ []) c.args.progress.now)
    (sym (c.by_type.ensures ∙ ap (λ b. record in_order { typed = b }) (c.same_type-typed.ensures ∙ ap (λ (t : SqlType). same_type c.args.self.now.column.ty t) c.ty.ensures))))
    (node_refused (order_of c.by_type.result) (c.args.self.now.column ∷ []) (g.R.Part.walk c.args.self.now.expr (sight_of c.args.sight.now) ∷ []) c.args.progress.now c.in_err-pass.field-0.0 c.in_err-pass.ensures))

pub returns : goal.returns
returns g c =
    answers
    (at_node (record in_order { typed = same_type c.args.self.now.column.ty (g.R.Typed.type_of c.args.self.now.expr) }) (c.args.self.now.column ∷ []) (g.R.Part.walk c.args.self.now.expr (sight_of c.args.sight.now) ∷ []) c.args.progress.now)
    (at_node (order_of c.by_type.result) (c.args.self.now.column ∷ []) (g.R.Part.walk c.args.self.now.expr (sight_of c.args.sight.now) ∷ []) c.args.progress.now)
    c.check.new.progress c.check.result
    (ap (λ (o : Order). at_node o (c.args.self.now.column ∷ []) (g.R.Part.walk c.args.self.now.expr (sight_of c.args.sight.now) ∷ []) c.args.progress.now)
    (sym (c.by_type.ensures ∙ ap (λ b. record in_order { typed = b }) (c.same_type-typed.ensures ∙ ap (λ (t : SqlType). same_type c.args.self.now.column.ty t) c.ty.ensures))))
    (node_passed (order_of c.by_type.result) (c.args.self.now.column ∷ []) (g.R.Part.walk c.args.self.now.expr (sight_of c.args.sight.now) ∷ []) c.args.progress.now c.pass.new.self c.check.new.progress c.check.result c.in_ok-pass.ensures
    (last_walked (g.R.Part.walk c.args.self.now.expr (sight_of c.args.sight.now)) c.pass.new.self c.check.new.progress c.check.result c.check.ensures))
