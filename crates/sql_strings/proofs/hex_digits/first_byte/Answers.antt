use Rattle.sql_strings.proofs.HexLaws.{odd-first, first-not, second-not}
use Rattle.sql_strings.proofs.hex_digits.first_byte.Goals as goal

pub returns-then-is_odd-clause-bytes : goal.returns-then-is_odd-clause-bytes
returns-then-is_odd-clause-bytes c = odd-first c.args.text.now c.args.is_odd c.first_digit.result c.utf8.text c.requires c.if-is_odd.true c.first_digit.ensures.digit

pub returns-in_err-high-clause-bytes : goal.returns-in_err-high-clause-bytes
returns-in_err-high-clause-bytes c = rw c.from_residual.ensures (first-not c.args.text.now c.args.is_odd c.utf8.text c.requires c.if-is_odd.false c.in_err-high.ensures.digit)

pub returns-in_err-low-clause-bytes : goal.returns-in_err-low-clause-bytes
returns-in_err-low-clause-bytes c =
    let high = c.in_ok-high.ensures.digit in
    rw c.from_residual-in_err-low.ensures (second-not c.args.text.now c.in_ok-high.behind.now c.args.is_odd high.0 c.if-is_odd.false high.1 c.in_err-low.ensures.digit)
