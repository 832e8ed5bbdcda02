-- One query more is passed, and the queries in sight are one more.
use Rattle.std.proofs.Common.{◌≡◌, ◌+◌, [], ◌∷◌, List, ℕ, drop, map, arith, ◌∙◌, ap, sym}
use Rattle.std.proofs.lemmas.Result.{err_from_is_err_and}
use Rattle.std.proofs.lemmas.List.{at_drop_all}
use Rattle.resolved_ast.specs.Flaws.{CteSeen, ScanPart, Sight, Walk, walk_all, with_walks, with_cte, cte_walk, cte_seen}
use Rattle.tree_check.specs.declared.sight.CteInSight.{CteInSight}
use Rattle.tree_check.specs.Sights.{ctes_of, sight_of}
use Rattle.tree_check.specs.WithWalks.{cte_part}
use Rattle.tree_check.proofs.EachLaws.{goes_on, stops, next_one}
use Rattle.tree_check.proofs.ThenLaws.{answers, last_walked}
use Rattle.tree_check.proofs.with_nodes.check_ctes.Goals as goal

pub loop-cte-preserved : goal.loop-cte-preserved
loop-cte-preserved g c =
    let l = c.loop-cte in
    let x = c.cte-item.result in
    let last : ScanPart = (g.P.Rows.scan_of c.args.scan.now, g.P.Part.walk c.args.scan.now) in
    let seeing : Sight = record (sight_of c.args.sight.now) { ctes = ctes_of l.seen.items } in
    goes_on (walk_all (with_walks [] (map (cte_part g.S.Rows.scan_of g.S.Part.walk) c.args.ctes.now) last (sight_of c.args.sight.now)) c.args.progress.now)
    (with_walks l.earlier (map (cte_part g.S.Rows.scan_of g.S.Part.walk) (drop l.cte-index c.args.ctes.now)) last seeing)
    (cte_walk l.earlier (cte_part g.S.Rows.scan_of g.S.Part.walk x) (sight_of c.seeing.result))
    (with_walks (x.number ∷ l.earlier) (map (cte_part g.S.Rows.scan_of g.S.Part.walk) (drop (l.cte-index + 1) c.args.ctes.now)) last (with_cte seeing (cte_seen (cte_part g.S.Rows.scan_of g.S.Part.walk x))))
    l.progress c.check_cte.new.progress l.invariant
    (next_one (λ cs. with_walks l.earlier (map (cte_part g.S.Rows.scan_of g.S.Part.walk) cs) last seeing) c.args.ctes.now l.cte-index x (omega arith) c.cte-item.is
    ∙ ap (λ (s : Sight). cte_walk l.earlier (cte_part g.S.Rows.scan_of g.S.Part.walk x) s ∷ with_walks (x.number ∷ l.earlier) (map (cte_part g.S.Rows.scan_of g.S.Part.walk) (drop (l.cte-index + 1) c.args.ctes.now)) last (with_cte seeing (cte_seen (cte_part g.S.Rows.scan_of g.S.Part.walk x))))
    (sym (c.seeing.ensures ∙ ap (λ (ks : List CteInSight). record (sight_of c.args.sight.now) { ctes = ctes_of ks }) c.as_slice.ensures.value)))
    c.in_ok-check_cte.ensures.walked
    ∙ ap (λ (ns : List ℕ). walk_all (with_walks ns (map (cte_part g.S.Rows.scan_of g.S.Part.walk) (drop (l.cte-index + 1) c.args.ctes.now)) last (with_cte seeing (cte_seen (cte_part g.S.Rows.scan_of g.S.Part.walk x)))) c.check_cte.new.progress) (sym c.in_ok-check_cte.ensures.earlier)
    ∙ ap (λ (ks : List CteSeen). walk_all (with_walks c.check_cte.new.earlier (map (cte_part g.S.Rows.scan_of g.S.Part.walk) (drop (l.cte-index + 1) c.args.ctes.now)) last (record (sight_of c.args.sight.now) { ctes = ks })) c.check_cte.new.progress)
    (sym (c.in_ok-add_cte.ensures ∙ ap (λ (k : CteSeen). k ∷ ctes_of l.seen.items) c.in_sight.ensures))

pub returns-in_err-check_cte : goal.returns-in_err-check_cte
returns-in_err-check_cte g c =
    let l = c.loop-cte in
    let x = c.cte-item.result in
    let last : ScanPart = (g.P.Rows.scan_of c.args.scan.now, g.P.Part.walk c.args.scan.now) in
    let seeing : Sight = record (sight_of c.args.sight.now) { ctes = ctes_of l.seen.items } in
    let p = err_from_is_err_and c.from_residual-in_err-check_cte.result c.from_residual-in_err-check_cte.ensures.1 in
    rw (p.1, p.2) (stops (walk_all (with_walks [] (map (cte_part g.S.Rows.scan_of g.S.Part.walk) c.args.ctes.now) last (sight_of c.args.sight.now)) c.args.progress.now)
    (with_walks l.earlier (map (cte_part g.S.Rows.scan_of g.S.Part.walk) (drop l.cte-index c.args.ctes.now)) last seeing)
    (cte_walk l.earlier (cte_part g.S.Rows.scan_of g.S.Part.walk x) (sight_of c.seeing.result))
    (with_walks (x.number ∷ l.earlier) (map (cte_part g.S.Rows.scan_of g.S.Part.walk) (drop (l.cte-index + 1) c.args.ctes.now)) last (with_cte seeing (cte_seen (cte_part g.S.Rows.scan_of g.S.Part.walk x))))
    l.progress c.in_err-check_cte.field-0.0 l.invariant
    (next_one (λ cs. with_walks l.earlier (map (cte_part g.S.Rows.scan_of g.S.Part.walk) cs) last seeing) c.args.ctes.now l.cte-index x (omega arith) c.cte-item.is
    ∙ ap (λ (s : Sight). cte_walk l.earlier (cte_part g.S.Rows.scan_of g.S.Part.walk x) s ∷ with_walks (x.number ∷ l.earlier) (map (cte_part g.S.Rows.scan_of g.S.Part.walk) (drop (l.cte-index + 1) c.args.ctes.now)) last (with_cte seeing (cte_seen (cte_part g.S.Rows.scan_of g.S.Part.walk x))))
    (sym (c.seeing.ensures ∙ ap (λ (ks : List CteInSight). record (sight_of c.args.sight.now) { ctes = ctes_of ks }) c.as_slice.ensures.value)))
    c.in_err-check_cte.ensures.walked)

pub returns : goal.returns
returns g c =
    let l = c.loop-cte in
    let last : ScanPart = (g.P.Rows.scan_of c.args.scan.now, g.P.Part.walk c.args.scan.now) in
    let seeing : Sight = record (sight_of c.args.sight.now) { ctes = ctes_of l.seen.items } in
    let same : sight_of c.seeing-2.result ≡ seeing = c.seeing-2.ensures ∙ ap (λ (ks : List CteInSight). record (sight_of c.args.sight.now) { ctes = ctes_of ks }) c.as_slice-2.ensures.value in
    answers (walk_all (with_walks [] (map (cte_part g.S.Rows.scan_of g.S.Part.walk) c.args.ctes.now) last (sight_of c.args.sight.now)) c.args.progress.now)
    (walk_all (g.P.Part.walk c.args.scan.now (sight_of c.seeing-2.result) ∷ []) l.progress) c.check.new.progress c.check.result
    (l.invariant
    ∙ ap (λ (ws : List Walk). walk_all ws l.progress)
    (at_drop_all (λ cs. with_walks l.earlier (map (cte_part g.S.Rows.scan_of g.S.Part.walk) cs) last seeing) c.args.ctes.now l.cte-index c.loop-cte-test.false
    ∙ ap (λ (s : Sight). g.P.Part.walk c.args.scan.now s ∷ []) (sym same)))
    (last_walked (g.P.Part.walk c.args.scan.now (sight_of c.seeing-2.result)) l.progress c.check.new.progress c.check.result c.check.ensures)
