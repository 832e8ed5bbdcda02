use Rattle.std.proofs.Common.{◌≡◌, ◌++◌, ◌∙◌, sym, ap, length}
use Rattle.std.specs.Char.{encode_utf8}
use Rattle.sql_strings.proofs.CharLaws.{chars-none, chars-last}
use Rattle.sql_strings.proofs.characters.last_character.Goals as goal

pub returns-in_err-last-clause-characters : goal.returns-in_err-last-clause-characters
returns-in_err-last-clause-characters c =
    rw c.from_residual.ensures (chars-none c.args.text.now (ap length (sym c.chars-rest.ensures.rest) ∙ c.in_err-last.ensures.steps.0))

pub returns-clause-characters : goal.returns-clause-characters
returns-clause-characters c =
    let split : c.args.text.now ≡ c.as_str.result.now ++ encode_utf8 c.in_ok-last.last =
    sym c.chars-rest.ensures.rest ∙ c.in_ok-last.ensures.steps ∙ ap (λ t. t ++ encode_utf8 c.in_ok-last.last) (sym c.as_str.ensures) in
    chars-last c.args.text.now c.as_str.result.now c.in_ok-last.last c.utf8.text c.as_str.utf8 split
