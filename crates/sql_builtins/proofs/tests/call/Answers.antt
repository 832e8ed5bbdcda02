use Rattle.std.proofs.Common.{sym, ap, ◌∙◌, List}
use Rattle.sql_types.specs.declared.sql_type.SqlType.{SqlType}
use Rattle.sql_types.specs.declared.value.Value.{Value}
use Rattle.sql_types.specs.Takes.{fits_types}
use Rattle.sql_builtins.proofs.ChoiceLaws.{chosen-fits}
use Rattle.sql_builtins.proofs.tests.call.Goals as goal

pub apply-requires : goal.apply-requires
apply-requires c =
    let values = c.as_slice-in-Some-5.result.now in
    chosen-fits _ _ c.in-Some.choice values (sym c.in_ok-choice.ensures ∙ c.in-Some.is)
    (ap (λ (types : List SqlType). fits_types types values) (sym c.as_slice-in-Some-3.ensures)
    ∙ ap (λ (xs : List Value). fits_types c.as_slice-in-Some-3.result.now xs) (c.as_slice-in-Some-5.ensures ∙ sym c.as_slice-in-Some-4.ensures)
    ∙ sym c.are_fitting.ensures ∙ c.if-not-are_fitting.false)
