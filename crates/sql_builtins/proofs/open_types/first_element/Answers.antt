use Rattle.std.proofs.Common.{sym, ap, ◌∙◌, List}
use Rattle.std.proofs.lemmas.List.{drop_all}
use Rattle.sql_coerce.specs.declared.arg.Arg.{Arg}
use Rattle.sql_builtins.specs.Choices.{first_element, standing, is_array_of_element}
use Rattle.sql_builtins.proofs.EndLaws.{first-end}
use Rattle.sql_builtins.proofs.open_types.first_element.Goals as goal

pub returns : goal.returns
returns c =
    let l = c.loop-argument in
    let none = drop_all l.argument-index c.args.arguments.now c.loop-argument-test.false in
    first-end l.rest.now ∙ ap (λ (xs : List Arg). first_element (standing is_array_of_element l.rest.now xs)) (sym none) ∙ l.invariant
