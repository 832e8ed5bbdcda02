use Rattle.std.proofs.Common.{[], ◌∷◌, ◌++◌, ap, sym, subst, ◌∙◌}
use Rattle.sql_aggregates.specs.Calls.{AllAddable}
use Rattle.sql_aggregates.proofs.TestLaws.{AllFit, none_fit, one_more_fits, one_fits, singles_addable}
use Rattle.sql_aggregates.proofs.tests.aggregate.Goals as goal

pub loop-plain-init : goal.loop-plain-init
loop-plain-init g c = record {
  call_is = ap (λ a. a.call) c.in_ok-accumulator.ensures;
  fit = subst (λ a. AllFit (c.args.ty.now ∷ []) a.added) (sym c.in_ok-accumulator.ensures) (none_fit (c.args.ty.now ∷ []));
}

pub add-requires : goal.add-requires
add-requires g c =
    subst (λ call. AllAddable call (c.loop-plain.accumulator.added ++ (c.in_ok-fitting.field-0 ∷ []) ∷ [])) (sym c.loop-plain.invariant.call_is)
    (singles_addable c.args.call.now c.args.ty.now _ c.requires.order c.requires.takes c.requires.groupable
    (one_more_fits (c.args.ty.now ∷ []) c.loop-plain.accumulator.added (c.in_ok-fitting.field-0 ∷ []) c.loop-plain.invariant.fit (one_fits c.args.ty.now c.in_ok-fitting.field-0 c.in_ok-fitting.ensures)))

pub loop-plain-preserved : goal.loop-plain-preserved
loop-plain-preserved g c = record {
  call_is = c.in_ok-add.ensures.call ∙ c.loop-plain.invariant.call_is;
  fit = subst (λ lists. AllFit (c.args.ty.now ∷ []) lists) (sym c.in_ok-add.ensures.ok)
      (one_more_fits (c.args.ty.now ∷ []) c.loop-plain.accumulator.added (c.in_ok-fitting.field-0 ∷ []) c.loop-plain.invariant.fit (one_fits c.args.ty.now c.in_ok-fitting.field-0 c.in_ok-fitting.ensures));
}
