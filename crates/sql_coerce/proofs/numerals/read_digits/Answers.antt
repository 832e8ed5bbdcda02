use Rattle.std.proofs.Common.{◌∙◌, sym, ap, get_or, arith}
use Rattle.std.specs.Prelude.{option_and_then}
use Rattle.sql_coerce.specs.Numerals.{only_u64, with_digit}
use Rattle.sql_coerce.proofs.Numbers.{digits-all, digits-end, digits-go_on, only-some}
use Rattle.sql_coerce.proofs.numerals.read_digits.Goals as goal

pub loop-digit-preserved : goal.loop-digit-preserved
loop-digit-preserved c =
    let next = only-some (with_digit c.args.radix c.loop-digit.number (get_or c.args.digits.now c.loop-digit.digit-index 0)) c.in_ok-number.number (sym c.with_digit.ensures ∙ c.in_ok-number.was) in
    let on = digits-go_on c.args.radix c.loop-digit.number c.in_ok-number.number c.args.digits.now c.loop-digit.digit-index c.loop-digit-test.true next.0 in
    record { small = next.1; same = ap (option_and_then only_u64) (sym on) ∙ c.loop-digit.invariant.same }

pub returns-in_err-number : goal.returns-in_err-number
returns-in_err-number c =
    c.from_residual.ensures
    ∙ sym (digits-end c.args.radix c.loop-digit.number c.args.digits.now c.loop-digit.digit-index (omega arith) c.loop-digit-test.true (sym c.with_digit.ensures ∙ c.in_err-number.was))
    ∙ c.loop-digit.invariant.same

pub returns : goal.returns
returns c =
    sym (digits-all c.args.radix c.loop-digit.number c.args.digits.now c.loop-digit.digit-index (omega arith) c.loop-digit.invariant.small) ∙ c.loop-digit.invariant.same
