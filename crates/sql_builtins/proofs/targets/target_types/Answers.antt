use Rattle.std.proofs.Common.{◌++◌, sym, ap, ◌∙◌, List}
use Rattle.std.proofs.lemmas.List.{drop_all}
use Rattle.sql_coerce.specs.declared.arg.Arg.{Arg}
use Rattle.sql_builtins.specs.Choices as choices
use Rattle.sql_builtins.proofs.EndLaws.{targets-end}
use Rattle.sql_builtins.proofs.targets.target_types.Goals as goal

pub returns : goal.returns
returns c =
    let l = c.loop-argument in
    let none = drop_all l.argument-index c.args.arguments.now c.loop-argument-test.false in
    targets-end c.args.common.now c.args.element.now l.rest.now l.targets
    ∙ ap (λ (xs : List Arg). l.targets ++ choices.target_types c.args.common.now c.args.element.now l.rest.now xs) (sym none) ∙ l.invariant
