-- One part more is passed.
use Rattle.std.proofs.Common.{◌+◌, drop, map, arith, ◌∙◌}
use Rattle.std.proofs.lemmas.Result.{err_from_is_err_and}
use Rattle.resolved_ast.specs.Flaws.{walk_all}
use Rattle.tree_check.specs.Sights.{sight_of}
use Rattle.tree_check.proofs.EachLaws.{goes_on, stops, each_next, each_end}
use Rattle.tree_check.proofs.part.check_all.Goals as goal

pub loop-part-preserved : goal.loop-part-preserved
loop-part-preserved g c =
    let l = c.loop-part in
    goes_on (walk_all (map (λ p. g.P.Part.walk p (sight_of c.args.sight.now)) c.args.parts.now) c.args.progress.now) (map (λ p. g.P.Part.walk p (sight_of c.args.sight.now)) (drop l.part-index c.args.parts.now)) (g.P.Part.walk c.part-item.result (sight_of c.args.sight.now)) (map (λ p. g.P.Part.walk p (sight_of c.args.sight.now)) (drop (l.part-index + 1) c.args.parts.now)) l.progress c.check.new.progress
    l.invariant (each_next (λ p. g.P.Part.walk p (sight_of c.args.sight.now)) c.args.parts.now l.part-index c.part-item.result (omega arith) c.part-item.is) c.in_ok-check.ensures

pub returns-in_err-check : goal.returns-in_err-check
returns-in_err-check g c =
    let l = c.loop-part in
    let p = err_from_is_err_and c.from_residual.result c.from_residual.ensures.1 in
    rw (p.1, p.2) (stops (walk_all (map (λ p. g.P.Part.walk p (sight_of c.args.sight.now)) c.args.parts.now) c.args.progress.now) (map (λ p. g.P.Part.walk p (sight_of c.args.sight.now)) (drop l.part-index c.args.parts.now)) (g.P.Part.walk c.part-item.result (sight_of c.args.sight.now)) (map (λ p. g.P.Part.walk p (sight_of c.args.sight.now)) (drop (l.part-index + 1) c.args.parts.now)) l.progress c.in_err-check.field-0.0
    l.invariant (each_next (λ p. g.P.Part.walk p (sight_of c.args.sight.now)) c.args.parts.now l.part-index c.part-item.result (omega arith) c.part-item.is) c.in_err-check.ensures)

pub returns : goal.returns
returns g c =
    let l = c.loop-part in
    l.invariant ∙ each_end (λ p. g.P.Part.walk p (sight_of c.args.sight.now)) c.args.parts.now l.part-index l.progress (omega arith)
