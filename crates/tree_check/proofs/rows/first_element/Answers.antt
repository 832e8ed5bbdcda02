-- With no argument left, there is no element type.
use Rattle.std.proofs.Common.{List, map, ap, sym, ◌∙◌}
use Rattle.std.proofs.lemmas.List.{drop_all}
use Rattle.sql_builtins.specs.Choices as choices
use Rattle.sql_builtins.proofs.EndLaws.{first-end}
use Rattle.resolved_ast.specs.declared.rex.Rex.{Rex}
use Rattle.resolved_ast.specs.Columns.{rex_type}
use Rattle.resolved_ast.specs.Signatures.{args}
use Rattle.tree_check.proofs.rows.first_element.Goals as goal

pub returns : goal.returns
returns c =
    let l = c.loop-argument in
    let none = drop_all l.argument-index c.args.arguments.now c.loop-argument-test.false in
    first-end l.rest.now
    ∙ ap (λ (xs : List Rex). choices.first_element (choices.standing choices.is_array_of_element l.rest.now (args (map rex_type xs)))) (sym none) ∙ l.invariant
