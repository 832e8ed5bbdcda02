-- One source more has it, or hasn't.
use Rattle.std.proofs.Common.{◌+◌, ◌∷◌, drop, arith, ap, sym, ◌∙◌}
use Rattle.std.proofs.lemmas.List.{at_drop_more}
use Rattle.resolved_ast.specs.Flaws as flaws
use Rattle.tree_check.specs.declared.sight.Source.{Source}
use Rattle.tree_check.specs.Sights.{columns_of}
use Rattle.tree_check.specs.Tests.{passes}
use Rattle.tree_check.proofs.FindingLaws.{skipped, hit}
use Rattle.tree_check.proofs.finding.sees_such.Goals as goal

pub returns-then-source_has : goal.returns-then-source_has
returns-then-source_has c =
    let l = c.loop-source in
    let x = c.source-item.result in
    sym (sym l.invariant
    ∙ at_drop_more (λ ss. flaws.sees_such c.args.wanted.now (passes c.args.asked.now) (columns_of ss)) c.args.sources.now l.source-index x (omega arith)
    ∙ ap (λ (s : Source). flaws.sees_such c.args.wanted.now (passes c.args.asked.now) (columns_of (s ∷ drop (l.source-index + 1) c.args.sources.now))) (sym c.source-item.is)
    ∙ hit c.args.wanted.now (passes c.args.asked.now) x (drop (l.source-index + 1) c.args.sources.now) (sym c.source_has.ensures ∙ c.if-source_has.true))

pub loop-source-preserved : goal.loop-source-preserved
loop-source-preserved c =
    let l = c.loop-source in
    let x = c.source-item.result in
    sym (at_drop_more (λ ss. flaws.sees_such c.args.wanted.now (passes c.args.asked.now) (columns_of ss)) c.args.sources.now l.source-index x (omega arith)
    ∙ ap (λ (s : Source). flaws.sees_such c.args.wanted.now (passes c.args.asked.now) (columns_of (s ∷ drop (l.source-index + 1) c.args.sources.now))) (sym c.source-item.is)
    ∙ skipped c.args.wanted.now (passes c.args.asked.now) x (drop (l.source-index + 1) c.args.sources.now) (sym c.source_has.ensures ∙ c.if-source_has.false))
    ∙ l.invariant
