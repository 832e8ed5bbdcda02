use Rattle.std.proofs.Common.{[], ◌∷◌, ◌++◌, refl, ap, sym, subst, ◌∙◌}
use Rattle.sql_aggregates.specs.Calls.{AllAddable, TakesTypes, takes_rows}
use Rattle.sql_aggregates.proofs.TestLaws.{AllFit, none_fit, one_more_fits, rows_addable}
use Rattle.sql_aggregates.proofs.tests.two_rows.Goals as goal

pub loop-init : goal.loop-init
loop-init c = record {
  call_is = ap (λ a. a.call) c.in_ok-accumulator.ensures;
  fit = subst (λ a. AllFit [] a.added) (sym c.in_ok-accumulator.ensures) (none_fit []);
}

pub add-requires : goal.add-requires
add-requires c =
    subst (λ call. AllAddable call (c.loop.accumulator.added ++ [] ∷ [])) (sym c.loop.invariant.call_is)
    (rows_addable c.call_of-call.result _ c.call_of-call.ensures.order (subst (λ n. TakesTypes n []) (sym c.call_of-call.ensures.name) takes_rows) c.call_of-call.ensures.distinct
    (one_more_fits [] c.loop.accumulator.added [] c.loop.invariant.fit refl))

pub loop-preserved : goal.loop-preserved
loop-preserved c = record {
  call_is = c.in_ok-add.ensures.call ∙ c.loop.invariant.call_is;
  fit = subst (λ lists. AllFit [] lists) (sym c.in_ok-add.ensures.ok) (one_more_fits [] c.loop.accumulator.added [] c.loop.invariant.fit refl);
}
