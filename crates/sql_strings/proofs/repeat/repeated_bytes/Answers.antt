use Rattle.std.proofs.Common.{◌≡◌, List, ℕ, length, subst, arith}
use Rattle.std.specs.Prelude.{IfOk}
use Rattle.std.proofs.lemmas.Grind.{common_steps}
use Rattle.sql_strings.proofs.RepeatLaws.{repeated_none}
use Rattle.sql_strings.proofs.repeat.repeated_bytes.Goals as goal

pub returns-then-is_empty : goal.returns-then-is_empty
returns-then-is_empty c =
    let none : length c.args.content.now ≡ 0 = grind (arith, common_steps) in
    let family : List ℕ → Type 0 = λ whole. IfOk c.from_slice.result (λ made. made ≡ whole) in
    subst family (repeated_none c.args.count c.args.content.now none) c.from_slice.ensures
