use Rattle.std.proofs.Common.{◌≡◌, ◌∙◌, ◌+◌, ap, length, take, arith}
use Rattle.std.specs.Str.{chars}
use Rattle.std.proofs.lemmas.Grind.{common_steps}
use Rattle.sql_strings.proofs.CharLaws.{fewer-chars, place-is, place-isnt}
use Rattle.sql_strings.proofs.search.text_place.Goals as goal

pub overflow_add-result : goal.overflow_add-result
overflow_add-result c = omega (arith, fewer-chars c.range.result.now c.range.utf8, c.range.ensures.len)

pub returns-in-Some : goal.returns-in-Some
returns-in-Some c =
    let value : c.range.result.now ≡ take c.in-Some.before c.args.text.now = grind (arith, common_steps) in
    ap (λ n. n + 1) (c.count_characters.ensures ∙ ap (λ t. length (chars t)) value)
    ∙ place-is c.args.part.now c.args.text.now c.in-Some.before c.utf8.part c.utf8.text c.in-Some.ensures.cases

pub returns-in-None : goal.returns-in-None
returns-in-None c = place-isnt c.args.part.now c.args.text.now c.utf8.part c.utf8.text c.in-None.ensures.cases
