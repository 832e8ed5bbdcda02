-- The scan comes behind the node, whose number is new where it passes.
use Rattle.std.proofs.Common.{◌≡◌, [], ◌∷◌, not, ap, sym, ◌∙◌}
use Rattle.std.specs.Prelude.{List}
use Rattle.std.proofs.lemmas.Result.{err_from_is_err_and}
use Rattle.resolved_ast.specs.declared.column.ColumnRef.{ColumnRef}
use Rattle.resolved_ast.specs.Columns.{among, columns}
use Rattle.resolved_ast.specs.Flaws.{Order, all_seen, at_node, in_order}
use Rattle.tree_check.specs.Sights.{sight_of, source_columns}
use Rattle.tree_check.proofs.ThenLaws.{answers, refuses, node_refused, node_passed, last_walked, passed_ids, added, when_ok}
use Rattle.tree_check.proofs.with_nodes.check_cte.Goals as goal

pub returns-in_err-pass-clause-walked : goal.returns-in_err-pass-clause-walked
returns-in_err-pass-clause-walked g c =
    let p = err_from_is_err_and c.from_residual-in_err-pass.result c.from_residual-in_err-pass.ensures.1 in
    let x = c.args.cte.now in
    let w = g.S.Part.walk x.scan (sight_of c.args.sight.now) in
    let new : Order = record in_order { ids = c.in_ok-ids.ids; seen = c.all_columns-seen.result } in
    let old : Order = record in_order { ids = not (among x.number c.args.earlier.now); seen = all_seen x.columns (columns (g.S.Rows.scan_of x.scan)) } in
    let same : old ≡ new =
    sym (ap (λ b. record in_order { ids = b; seen = c.all_columns-seen.result }) c.in_ok-ids.ensures.was
    ∙ ap (λ b. record in_order { ids = not (among x.number c.args.earlier.now); seen = b })
    (c.all_columns-seen.ensures ∙ ap (λ (rs : List ColumnRef). all_seen rs (source_columns c.rows.result)) c.as_slice.ensures ∙ ap (all_seen x.columns) c.rows.ensures)) in
    rw (p.1, p.2) (refuses (at_node old [] (w ∷ []) c.args.progress.now) (at_node new [] (w ∷ []) c.args.progress.now) c.in_err-pass.field-0.0
    (ap (λ (o : Order). at_node o [] (w ∷ []) c.args.progress.now) same)
    (node_refused new [] (w ∷ []) c.args.progress.now c.in_err-pass.field-0.0 c.in_err-pass.ensures))

pub returns-clause-walked : goal.returns-clause-walked
returns-clause-walked g c =
    let x = c.args.cte.now in
    let w = g.S.Part.walk x.scan (sight_of c.args.sight.now) in
    let new : Order = record in_order { ids = c.in_ok-ids.ids; seen = c.all_columns-seen.result } in
    let old : Order = record in_order { ids = not (among x.number c.args.earlier.now); seen = all_seen x.columns (columns (g.S.Rows.scan_of x.scan)) } in
    let same : old ≡ new =
    sym (ap (λ b. record in_order { ids = b; seen = c.all_columns-seen.result }) c.in_ok-ids.ensures.was
    ∙ ap (λ b. record in_order { ids = not (among x.number c.args.earlier.now); seen = b })
    (c.all_columns-seen.ensures ∙ ap (λ (rs : List ColumnRef). all_seen rs (source_columns c.rows.result)) c.as_slice.ensures ∙ ap (all_seen x.columns) c.rows.ensures)) in
    answers (at_node old [] (w ∷ []) c.args.progress.now) (at_node new [] (w ∷ []) c.args.progress.now) c.check.new.progress c.check.result
    (ap (λ (o : Order). at_node o [] (w ∷ []) c.args.progress.now) same)
    (node_passed new [] (w ∷ []) c.args.progress.now c.pass.new.self c.check.new.progress c.check.result c.in_ok-pass.ensures
    (last_walked w c.pass.new.self c.check.new.progress c.check.result c.check.ensures))

pub returns-clause-earlier : goal.returns-clause-earlier
returns-clause-earlier g c =
    let x = c.args.cte.now in
    let new : Order = record in_order { ids = c.in_ok-ids.ids; seen = c.all_columns-seen.result } in
    when_ok c.check.result (added (among x.number c.args.earlier.now) x.number c.args.earlier.now c.add.new.self
    (sym c.in_ok-ids.ensures.was ∙ passed_ids new c.args.progress.now c.pass.new.self c.in_ok-pass.ensures) c.in_ok-ids.ensures.now)
