-- The parts come one after another, behind the node.
use Rattle.std.proofs.Common.{List, [], ◌∷◌, ◌++◌, subst}
use Rattle.std.proofs.lemmas.Result.{err_from_is_err_and}
use Rattle.resolved_ast.specs.declared.column.MadeColumn.{MadeColumn}
use Rattle.resolved_ast.specs.Columns.{columns}
use Rattle.resolved_ast.specs.Flaws.{over}
use Rattle.tree_check.specs.Orders.{order_of}
use Rattle.tree_check.specs.Sights.{sight_of, source_columns}
use Rattle.tree_check.specs.Walked.{Walked}
use Rattle.tree_check.proofs.ThenLaws.{node_refused, node_later, node_passed, first_refused, first_later, first_passed, last_walked}
use Rattle.tree_check.proofs.nodes.above_pairs.Goals as goal

pub returns-in_err-pass : goal.returns-in_err-pass
returns-in_err-pass g c =
    let p = err_from_is_err_and c.from_residual.result c.from_residual.ensures.1 in
    rw (p.1, p.2) (node_refused (order_of c.args.order) [] ((g.S.Part.walk c.args.left.now (sight_of c.args.sight.now)) ∷ (g.S.Part.walk c.args.right.now (sight_of c.args.sight.now)) ∷ (g.P.Part.walk c.args.part.now (over (sight_of c.args.sight.now) (columns (g.S.Rows.scan_of c.args.left.now) ++ (columns (g.S.Rows.scan_of c.args.right.now) ++ [])))) ∷ []) c.args.progress.now c.in_err-pass.field-0.0 c.in_err-pass.ensures)

pub returns-in_err-check : goal.returns-in_err-check
returns-in_err-check g c =
    let p = err_from_is_err_and c.from_residual-in_err-check.result c.from_residual-in_err-check.ensures.1 in
    rw (p.1, p.2) (node_later (order_of c.args.order) [] ((g.S.Part.walk c.args.left.now (sight_of c.args.sight.now)) ∷ (g.S.Part.walk c.args.right.now (sight_of c.args.sight.now)) ∷ (g.P.Part.walk c.args.part.now (over (sight_of c.args.sight.now) (columns (g.S.Rows.scan_of c.args.left.now) ++ (columns (g.S.Rows.scan_of c.args.right.now) ++ [])))) ∷ []) c.args.progress.now c.pass.new.self c.in_err-check.field-0.0 c.in_ok-pass.ensures (first_refused (g.S.Part.walk c.args.left.now (sight_of c.args.sight.now)) ((g.S.Part.walk c.args.right.now (sight_of c.args.sight.now)) ∷ (g.P.Part.walk c.args.part.now (over (sight_of c.args.sight.now) (columns (g.S.Rows.scan_of c.args.left.now) ++ (columns (g.S.Rows.scan_of c.args.right.now) ++ [])))) ∷ []) c.pass.new.self c.in_err-check.field-0.0 c.in_err-check.ensures))

pub returns-in_err-check-2 : goal.returns-in_err-check-2
returns-in_err-check-2 g c =
    let p = err_from_is_err_and c.from_residual-in_err-check-2.result c.from_residual-in_err-check-2.ensures.1 in
    rw (p.1, p.2) (node_later (order_of c.args.order) [] ((g.S.Part.walk c.args.left.now (sight_of c.args.sight.now)) ∷ (g.S.Part.walk c.args.right.now (sight_of c.args.sight.now)) ∷ (g.P.Part.walk c.args.part.now (over (sight_of c.args.sight.now) (columns (g.S.Rows.scan_of c.args.left.now) ++ (columns (g.S.Rows.scan_of c.args.right.now) ++ [])))) ∷ []) c.args.progress.now c.pass.new.self c.in_err-check-2.field-0.0 c.in_ok-pass.ensures (first_later (g.S.Part.walk c.args.left.now (sight_of c.args.sight.now)) ((g.S.Part.walk c.args.right.now (sight_of c.args.sight.now)) ∷ (g.P.Part.walk c.args.part.now (over (sight_of c.args.sight.now) (columns (g.S.Rows.scan_of c.args.left.now) ++ (columns (g.S.Rows.scan_of c.args.right.now) ++ [])))) ∷ []) c.pass.new.self c.check.new.progress c.in_err-check-2.field-0.0 c.in_ok-check.ensures (first_refused (g.S.Part.walk c.args.right.now (sight_of c.args.sight.now)) ((g.P.Part.walk c.args.part.now (over (sight_of c.args.sight.now) (columns (g.S.Rows.scan_of c.args.left.now) ++ (columns (g.S.Rows.scan_of c.args.right.now) ++ [])))) ∷ []) c.check.new.progress c.in_err-check-2.field-0.0 c.in_err-check-2.ensures)))

pub returns : goal.returns
returns g c = node_passed (order_of c.args.order) [] ((g.S.Part.walk c.args.left.now (sight_of c.args.sight.now)) ∷ (g.S.Part.walk c.args.right.now (sight_of c.args.sight.now)) ∷ (g.P.Part.walk c.args.part.now (over (sight_of c.args.sight.now) (columns (g.S.Rows.scan_of c.args.left.now) ++ (columns (g.S.Rows.scan_of c.args.right.now) ++ [])))) ∷ []) c.args.progress.now c.pass.new.self c.check_over.new.progress c.check_over.result c.in_ok-pass.ensures (first_passed (g.S.Part.walk c.args.left.now (sight_of c.args.sight.now)) ((g.S.Part.walk c.args.right.now (sight_of c.args.sight.now)) ∷ (g.P.Part.walk c.args.part.now (over (sight_of c.args.sight.now) (columns (g.S.Rows.scan_of c.args.left.now) ++ (columns (g.S.Rows.scan_of c.args.right.now) ++ [])))) ∷ []) c.pass.new.self c.check.new.progress c.check_over.new.progress c.check_over.result c.in_ok-check.ensures (first_passed (g.S.Part.walk c.args.right.now (sight_of c.args.sight.now)) ((g.P.Part.walk c.args.part.now (over (sight_of c.args.sight.now) (columns (g.S.Rows.scan_of c.args.left.now) ++ (columns (g.S.Rows.scan_of c.args.right.now) ++ [])))) ∷ []) c.check.new.progress c.check-2.new.progress c.check_over.new.progress c.check_over.result c.in_ok-check-2.ensures (last_walked (g.P.Part.walk c.args.part.now (over (sight_of c.args.sight.now) (columns (g.S.Rows.scan_of c.args.left.now) ++ (columns (g.S.Rows.scan_of c.args.right.now) ++ [])))) c.check-2.new.progress c.check_over.new.progress c.check_over.result (subst (λ (cs : List MadeColumn). Walked (g.P.Part.walk c.args.part.now (over (sight_of c.args.sight.now) (columns (g.S.Rows.scan_of c.args.left.now) ++ (cs ++ []))) c.check-2.new.progress) c.check_over.new.progress c.check_over.result) c.rows-2.ensures (subst (λ (cs : List MadeColumn). Walked (g.P.Part.walk c.args.part.now (over (sight_of c.args.sight.now) (cs ++ (source_columns c.rows-2.result ++ []))) c.check-2.new.progress) c.check_over.new.progress c.check_over.result) c.rows.ensures c.check_over.ensures)))))
