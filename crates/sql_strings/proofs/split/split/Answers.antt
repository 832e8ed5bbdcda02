use Rattle.std.proofs.Common.{◌≡◌, ◌<◌, List, length, subst, arith}
use Rattle.std.specs.Prelude.{IfOk}
use Rattle.std.proofs.lemmas.Grind.{common_steps}
use Rattle.sql_types.specs.declared.value.Value.{Value}
use Rattle.sql_strings.proofs.PieceLaws.{split-empty, split-singles, split-pieces}
use Rattle.sql_strings.proofs.split.split.Goals as goal

pub returns-then-is_empty : goal.returns-then-is_empty
returns-then-is_empty c =
    let none : length c.args.text.now ≡ 0 = grind (arith, common_steps) in
    let family : List Value → Type 0 = λ whole. IfOk c.one_piece.result (λ made. made ≡ whole) in
    subst family (split-empty c.args.separator.now c.args.text.now none) c.one_piece.ensures

pub returns-then-is_empty-2 : goal.returns-then-is_empty-2
returns-then-is_empty-2 c =
    let some : 0 < length c.args.text.now = grind (arith, common_steps) in
    let none : length c.args.separator.now ≡ 0 = grind (arith, common_steps) in
    let family : List Value → Type 0 = λ whole. IfOk c.singles.result (λ made. made ≡ whole) in
    subst family (split-singles c.args.separator.now c.args.text.now c.utf8.text none some) c.singles.ensures

pub returns : goal.returns
returns c =
    let some : 0 < length c.args.text.now = grind (arith, common_steps) in
    let parts : 0 < length c.args.separator.now = grind (arith, common_steps) in
    let family : List Value → Type 0 = λ whole. IfOk c.pieces.result (λ made. made ≡ whole) in
    subst family (split-pieces c.args.separator.now c.args.text.now c.utf8.separator c.utf8.text parts some) c.pieces.ensures
