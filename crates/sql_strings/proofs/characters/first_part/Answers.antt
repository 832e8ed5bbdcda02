use Rattle.std.proofs.Common.{◌≡◌, ◌-◌, ◌∙◌, ap, length, take, arith}
use Rattle.std.specs.Str.{chars}
use Rattle.std.proofs.lemmas.Grind.{common_steps}
use Rattle.sql_strings.proofs.CharLaws.{chars-front, front-edge}
use Rattle.sql_strings.proofs.characters.first_part.Goals as goal

pub range-requires-clause-end_boundary : goal.range-requires-clause-end_boundary
range-requires-clause-end_boundary c =
    front-edge c.args.text.now c.without_first-rest.ensures.behind.0 c.without_first-rest.result.now c.without_first-rest.utf8 c.without_first-rest.ensures.behind.1

pub returns : goal.returns
returns c =
    let value : c.range.result.now ≡ take (length c.args.text.now - length c.without_first-rest.result.now) c.args.text.now = grind (arith, common_steps) in
    ap chars value
    ∙ chars-front c.args.text.now c.without_first-rest.ensures.behind.0 c.without_first-rest.result.now c.args.count c.utf8.text c.without_first-rest.utf8
    c.without_first-rest.ensures.behind.1 c.without_first-rest.ensures.characters
