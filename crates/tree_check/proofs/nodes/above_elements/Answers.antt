-- The parts come one after another, behind the node.
use Rattle.std.proofs.Common.{◌≡◌, List, [], ◌∷◌, ◌++◌, Ok, subst}
use Rattle.std.proofs.lemmas.Result.{err_from_is_err_and}
use Rattle.resolved_ast.specs.declared.column.MadeColumn.{MadeColumn}
use Rattle.resolved_ast.specs.Columns.{columns}
use Rattle.resolved_ast.specs.Flaws.{over}
use Rattle.resolved_ast.specs.Parts.{there}
use Rattle.tree_check.specs.Orders.{order_of}
use Rattle.tree_check.specs.Sights.{sight_of}
use Rattle.tree_check.specs.Walked.{Walked, Refused}
use Rattle.tree_check.proofs.ThenLaws.{node_refused, node_later, node_passed, first_refused, first_later, first_passed, last_walked}
use Rattle.tree_check.proofs.nodes.above_elements.Goals as goal

pub returns-in_err-pass : goal.returns-in_err-pass
returns-in_err-pass g c =
    let p = err_from_is_err_and c.from_residual.result c.from_residual.ensures.1 in
    rw (p.1, p.2) (node_refused (order_of c.args.order) (c.args.element.now ∷ there c.args.offset.now) ((g.S.Part.walk c.args.scan.now (sight_of c.args.sight.now)) ∷ (g.P.Part.walk c.args.array.now (over (sight_of c.args.sight.now) (columns (g.S.Rows.scan_of c.args.scan.now) ++ []))) ∷ (g.Q.Part.walk c.args.part.now (over (sight_of c.args.sight.now) (columns (g.S.Rows.scan_of c.args.scan.now) ++ (c.args.element.now ∷ (there c.args.offset.now ++ []))))) ∷ []) c.args.progress.now c.in_err-pass.field-0.0 c.in_err-pass.ensures)

pub returns-in_err-check : goal.returns-in_err-check
returns-in_err-check g c =
    let p = err_from_is_err_and c.from_residual-in_err-check.result c.from_residual-in_err-check.ensures.1 in
    rw (p.1, p.2) (node_later (order_of c.args.order) (c.args.element.now ∷ there c.args.offset.now) ((g.S.Part.walk c.args.scan.now (sight_of c.args.sight.now)) ∷ (g.P.Part.walk c.args.array.now (over (sight_of c.args.sight.now) (columns (g.S.Rows.scan_of c.args.scan.now) ++ []))) ∷ (g.Q.Part.walk c.args.part.now (over (sight_of c.args.sight.now) (columns (g.S.Rows.scan_of c.args.scan.now) ++ (c.args.element.now ∷ (there c.args.offset.now ++ []))))) ∷ []) c.args.progress.now c.pass.new.self c.in_err-check.field-0.0 c.in_ok-pass.ensures (first_refused (g.S.Part.walk c.args.scan.now (sight_of c.args.sight.now)) ((g.P.Part.walk c.args.array.now (over (sight_of c.args.sight.now) (columns (g.S.Rows.scan_of c.args.scan.now) ++ []))) ∷ (g.Q.Part.walk c.args.part.now (over (sight_of c.args.sight.now) (columns (g.S.Rows.scan_of c.args.scan.now) ++ (c.args.element.now ∷ (there c.args.offset.now ++ []))))) ∷ []) c.pass.new.self c.in_err-check.field-0.0 c.in_err-check.ensures))

pub returns-in_err-check_over : goal.returns-in_err-check_over
returns-in_err-check_over g c =
    let p = err_from_is_err_and c.from_residual-in_err-check_over.result c.from_residual-in_err-check_over.ensures.1 in
    rw (p.1, p.2) (node_later (order_of c.args.order) (c.args.element.now ∷ there c.args.offset.now) ((g.S.Part.walk c.args.scan.now (sight_of c.args.sight.now)) ∷ (g.P.Part.walk c.args.array.now (over (sight_of c.args.sight.now) (columns (g.S.Rows.scan_of c.args.scan.now) ++ []))) ∷ (g.Q.Part.walk c.args.part.now (over (sight_of c.args.sight.now) (columns (g.S.Rows.scan_of c.args.scan.now) ++ (c.args.element.now ∷ (there c.args.offset.now ++ []))))) ∷ []) c.args.progress.now c.pass.new.self c.in_err-check_over.field-0.0 c.in_ok-pass.ensures (first_later (g.S.Part.walk c.args.scan.now (sight_of c.args.sight.now)) ((g.P.Part.walk c.args.array.now (over (sight_of c.args.sight.now) (columns (g.S.Rows.scan_of c.args.scan.now) ++ []))) ∷ (g.Q.Part.walk c.args.part.now (over (sight_of c.args.sight.now) (columns (g.S.Rows.scan_of c.args.scan.now) ++ (c.args.element.now ∷ (there c.args.offset.now ++ []))))) ∷ []) c.pass.new.self c.check.new.progress c.in_err-check_over.field-0.0 c.in_ok-check.ensures (first_refused (g.P.Part.walk c.args.array.now (over (sight_of c.args.sight.now) (columns (g.S.Rows.scan_of c.args.scan.now) ++ []))) ((g.Q.Part.walk c.args.part.now (over (sight_of c.args.sight.now) (columns (g.S.Rows.scan_of c.args.scan.now) ++ (c.args.element.now ∷ (there c.args.offset.now ++ []))))) ∷ []) c.check.new.progress c.in_err-check_over.field-0.0 (subst (λ (cs : List MadeColumn). Refused (g.P.Part.walk c.args.array.now (over (sight_of c.args.sight.now) (cs ++ [])) c.check.new.progress) c.in_err-check_over.field-0.0) c.rows-rows.ensures c.in_err-check_over.ensures))))

pub returns : goal.returns
returns g c = node_passed (order_of c.args.order) (c.args.element.now ∷ there c.args.offset.now) ((g.S.Part.walk c.args.scan.now (sight_of c.args.sight.now)) ∷ (g.P.Part.walk c.args.array.now (over (sight_of c.args.sight.now) (columns (g.S.Rows.scan_of c.args.scan.now) ++ []))) ∷ (g.Q.Part.walk c.args.part.now (over (sight_of c.args.sight.now) (columns (g.S.Rows.scan_of c.args.scan.now) ++ (c.args.element.now ∷ (there c.args.offset.now ++ []))))) ∷ []) c.args.progress.now c.pass.new.self c.check_over-2.new.progress c.check_over-2.result c.in_ok-pass.ensures (first_passed (g.S.Part.walk c.args.scan.now (sight_of c.args.sight.now)) ((g.P.Part.walk c.args.array.now (over (sight_of c.args.sight.now) (columns (g.S.Rows.scan_of c.args.scan.now) ++ []))) ∷ (g.Q.Part.walk c.args.part.now (over (sight_of c.args.sight.now) (columns (g.S.Rows.scan_of c.args.scan.now) ++ (c.args.element.now ∷ (there c.args.offset.now ++ []))))) ∷ []) c.pass.new.self c.check.new.progress c.check_over-2.new.progress c.check_over-2.result c.in_ok-check.ensures (first_passed (g.P.Part.walk c.args.array.now (over (sight_of c.args.sight.now) (columns (g.S.Rows.scan_of c.args.scan.now) ++ []))) ((g.Q.Part.walk c.args.part.now (over (sight_of c.args.sight.now) (columns (g.S.Rows.scan_of c.args.scan.now) ++ (c.args.element.now ∷ (there c.args.offset.now ++ []))))) ∷ []) c.check.new.progress c.check_over.new.progress c.check_over-2.new.progress c.check_over-2.result (subst (λ (cs : List MadeColumn). g.P.Part.walk c.args.array.now (over (sight_of c.args.sight.now) (cs ++ [])) c.check.new.progress ≡ Ok c.check_over.new.progress) c.rows-rows.ensures c.in_ok-check_over.ensures) (last_walked (g.Q.Part.walk c.args.part.now (over (sight_of c.args.sight.now) (columns (g.S.Rows.scan_of c.args.scan.now) ++ (c.args.element.now ∷ (there c.args.offset.now ++ []))))) c.check_over.new.progress c.check_over-2.new.progress c.check_over-2.result (subst (λ (cs : List MadeColumn). Walked (g.Q.Part.walk c.args.part.now (over (sight_of c.args.sight.now) (cs ++ (c.args.element.now ∷ (there c.args.offset.now ++ [])))) c.check_over.new.progress) c.check_over-2.new.progress c.check_over-2.result) c.rows-rows.ensures c.check_over-2.ensures))))
