use Rattle.std.proofs.Common.{sym, ap, ◌∙◌, List}
use Rattle.std.proofs.lemmas.List.{drop_all}
use Rattle.sql_coerce.specs.declared.arg.Arg.{Arg}
use Rattle.sql_builtins.specs.Steps.{cost_at, with_more}
use Rattle.sql_builtins.proofs.StepLaws.{more-end}
use Rattle.sql_builtins.proofs.costs.cost_at.Goals as goal

pub returns : goal.returns
returns c =
    let l = c.loop-argument in
    let none = drop_all l.argument-index c.args.arguments.now c.loop-argument-test.false in
    sym (more-end c.args.common.now c.args.element.now l.others l.literals l.rest.now)
    ∙ ap (λ (xs : List Arg). with_more l.others l.literals (cost_at c.args.common.now c.args.element.now l.rest.now xs)) (sym none) ∙ l.invariant.same
