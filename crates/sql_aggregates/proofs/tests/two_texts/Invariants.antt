-- Each list so far is a text and the separator.
use Rattle.std.proofs.Common.{◌≡◌, [], ◌∷◌}
use Rattle.sql_types.specs.declared.sql_type.SqlType.TheVariants as ty
use Rattle.sql_aggregates.proofs.TestLaws.{AllFit, EachSecond}
use Rattle.sql_aggregates.proofs.tests.two_texts.Given as goal

abbrev pub invariant-loop-text : goal.invariant-loop-text
invariant-loop-text g l = record {
  call_is : l.accumulator.call ≡ l.call;
  fit : AllFit (ty.Text ∷ ty.Text ∷ []) l.accumulator.added;
  seconds : EachSecond l.separator l.accumulator.added;
}
