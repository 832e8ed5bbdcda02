use Rattle.std.proofs.Common.{◌≡◌, ◌∙◌, rules, true, false, codes, nat_eq, drop}
use Rattle.std.specs.List.{starts_with}
use Rattle.std.proofs.lemmas.List.{take_rest}
use Rattle.sql_coerce.specs.Numerals.{unsigned}
use Rattle.sql_coerce.proofs.Numbers.{whole_positive, whole_negative}
use Rattle.sql_coerce.proofs.numerals.read_integer.Goals as goal

pub returns-in-45 : goal.returns-in-45
returns-in-45 c =
    let minus : starts_with nat_eq c.args.text.now (codes "-") ≡ true = search rules in
    rw minus (c.negative.ensures ∙ rw (c.read_unsigned.ensures, take_rest c.args.text.now 1) (whole_negative (unsigned (drop 1 c.args.text.now))))

pub returns-in-43 : goal.returns-in-43
returns-in-43 c =
    let minus : starts_with nat_eq c.args.text.now (codes "-") ≡ false = search rules in
    let plus : starts_with nat_eq c.args.text.now (codes "+") ≡ true = search rules in
    rw (minus, plus) (c.positive.ensures ∙ rw (c.read_unsigned-in-43.ensures, take_rest c.args.text.now 1) (whole_positive (unsigned (drop 1 c.args.text.now))))
