use Rattle.std.proofs.Common.{[], ◌∷◌, ◌∙◌, arith, subst}
use Rattle.std.specs.List.{All}
use Rattle.std.proofs.lemmas.List.{take_all}
use Rattle.eval_groups.specs.declared.groups.Group.{Group}
use Rattle.eval_groups.specs.Aggregated.{OneSeparator, lists_of}
use Rattle.eval_groups.proofs.TestLaws.{front_more_at}
use Rattle.eval_groups.proofs.separator_tests.one_separator_each.Goals as goal

pub loop-group-preserved : goal.loop-group-preserved
loop-group-preserved c =
    front_more_at (λ (group : Group). OneSeparator (lists_of c.args.rows.now.rows (1 ∷ 2 ∷ 1 ∷ []) group)) c.as_slice-group-items.result.now c.loop-group.group-index c.group-item.result c.loop-group-test.true c.group-item.is c.loop-group.invariant
    (c.one_separator.ensures c.if-not-one_separator.false)

pub returns : goal.returns
returns c = λ _.
    subst (All (λ (group : Group). OneSeparator (lists_of c.args.rows.now.rows (1 ∷ 2 ∷ 1 ∷ []) group)))
    (take_all c.loop-group.group-index c.as_slice-group-items.result.now (omega (arith, c.loop-group-test.false)) ∙ c.as_slice-group-items.ensures) c.loop-group.invariant
