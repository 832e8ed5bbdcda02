use Rattle.std.proofs.Common.{◌∙◌, arith}
use Rattle.sql_strings.proofs.HexLaws.{encoded}
use Rattle.sql_strings.proofs.hex_digits.to_hex.Goals as goal

pub returns : goal.returns
returns c =
    c.from_string.ensures ∙ c.in_ok-encode.ensures ∙ encoded c.args.content.now (λ i. let fits = c.type_inv.content i in omega (arith, fits))
