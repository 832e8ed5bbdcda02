-- With no argument left, nothing more is asked.
use Rattle.std.proofs.Common.{List, map, ap, sym, ◌∙◌}
use Rattle.std.proofs.lemmas.List.{drop_all}
use Rattle.sql_builtins.specs.Choices as choices
use Rattle.resolved_ast.specs.declared.rex.Rex.{Rex}
use Rattle.resolved_ast.specs.Columns.{rex_type}
use Rattle.resolved_ast.specs.Signatures.{args, typed_as}
use Rattle.tree_check.proofs.RowsLaws.{fitting_end}
use Rattle.tree_check.proofs.rows.slots_fit.Goals as goal

pub returns : goal.returns
returns c =
    let l = c.loop-argument in
    let none = drop_all l.argument-index c.args.arguments.now c.loop-argument-test.false in
    fitting_end c.args.common.now c.args.element.now l.rest.now
    ∙ ap (λ (xs : List Rex). typed_as (choices.target_types c.args.common.now c.args.element.now l.rest.now (args (map rex_type xs))) (map rex_type xs)) (sym none) ∙ l.invariant
