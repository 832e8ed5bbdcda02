use Rattle.std.proofs.Common.{◌≡◌, [], ◌∷◌, ◌++◌, true, ap, sym, subst, ◌∙◌}
use Rattle.sql_types.specs.declared.sql_type.SqlType.TheVariants as ty
use Rattle.sql_types.specs.Fits.{fits}
use Rattle.sql_aggregates.specs.Calls.{AllAddable}
use Rattle.sql_aggregates.proofs.TestLaws.{AllFit, none_fit, one_more_fits, two_fit, EachSecond, none_second, one_more_second, texts_addable}
use Rattle.sql_aggregates.proofs.tests.two_texts.Goals as goal

pub loop-text-init : goal.loop-text-init
loop-text-init g c = record {
  call_is = ap (λ a. a.call) c.in_ok-accumulator.ensures;
  fit = subst (λ a. AllFit (ty.Text ∷ ty.Text ∷ []) a.added) (sym c.in_ok-accumulator.ensures) (none_fit (ty.Text ∷ ty.Text ∷ []));
  seconds = subst (λ a. EachSecond c.args.separator.now a.added) (sym c.in_ok-accumulator.ensures) (none_second c.args.separator.now);
}

pub add-requires : goal.add-requires
add-requires g c =
    let second : fits ty.Text c.in_ok-copy_value.field-0 ≡ true = ap (fits ty.Text) c.in_ok-copy_value.ensures ∙ c.requires in
    let list = c.in_ok-text.text ∷ c.in_ok-copy_value.field-0 ∷ [] in
    subst (λ call. AllAddable call (c.loop-text.accumulator.added ++ list ∷ [])) (sym c.loop-text.invariant.call_is)
    (texts_addable c.call_of-call.result c.args.separator.now _ c.call_of-call.ensures.name c.call_of-call.ensures.distinct c.call_of-call.ensures.order
    (one_more_fits (ty.Text ∷ ty.Text ∷ []) c.loop-text.accumulator.added list c.loop-text.invariant.fit (two_fit ty.Text ty.Text c.in_ok-text.text c.in_ok-copy_value.field-0 c.in_ok-text.ensures second))
    (one_more_second c.args.separator.now c.loop-text.accumulator.added list c.loop-text.invariant.seconds c.in_ok-copy_value.ensures))

pub loop-text-preserved : goal.loop-text-preserved
loop-text-preserved g c =
    let second : fits ty.Text c.in_ok-copy_value.field-0 ≡ true = ap (fits ty.Text) c.in_ok-copy_value.ensures ∙ c.requires in
    let list = c.in_ok-text.text ∷ c.in_ok-copy_value.field-0 ∷ [] in
    record {
      call_is = c.in_ok-add.ensures.call ∙ c.loop-text.invariant.call_is;
      fit = subst (λ lists. AllFit (ty.Text ∷ ty.Text ∷ []) lists) (sym c.in_ok-add.ensures.ok)
          (one_more_fits (ty.Text ∷ ty.Text ∷ []) c.loop-text.accumulator.added list c.loop-text.invariant.fit (two_fit ty.Text ty.Text c.in_ok-text.text c.in_ok-copy_value.field-0 c.in_ok-text.ensures second));
      seconds = subst (λ lists. EachSecond c.args.separator.now lists) (sym c.in_ok-add.ensures.ok)
          (one_more_second c.args.separator.now c.loop-text.accumulator.added list c.loop-text.invariant.seconds c.in_ok-copy_value.ensures);
    }
