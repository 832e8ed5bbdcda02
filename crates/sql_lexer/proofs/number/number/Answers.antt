use Rattle.std.proofs.Common.{◌∙◌, sym}
use Rattle.sql_lexer.proofs.Numbers.{stops, continues, ended, some_digits}
use Rattle.sql_lexer.proofs.number.number.Goals as goal

pub returns-in-None : goal.returns-in-None
returns-in-None c =
    stops c.args.base c.args.digits.now c.digits.at c.digits.number c.from-digit.result c.digits.invariant c.digits-test.true (c.from-digit.ensures ∙ c.digit_value.ensures)
    c.requires (sym c.with_digit.ensures ∙ c.in-None.is)

pub digits-preserved : goal.digits-preserved
digits-preserved c =
    continues c.args.base c.args.digits.now c.digits.at c.digits.number c.from-digit.result c.digits.invariant c.digits-test.true (c.from-digit.ensures ∙ c.digit_value.ensures)
    c.if-base-digit.false c.in-Some.more (sym c.with_digit.ensures ∙ c.in-Some.is)

pub returns : goal.returns
returns c = ended c.args.base c.args.digits.now c.digits.at c.digits.number c.digits.invariant c.digits-test.false (some_digits c.args.digits.now (sym c.is_empty.ensures ∙ c.if-is_empty.false))
