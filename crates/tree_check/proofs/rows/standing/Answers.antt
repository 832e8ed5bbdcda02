-- With no argument left, nothing more stands.
use Rattle.std.proofs.Common.{List, ◌++◌, map, ap, sym, ◌∙◌}
use Rattle.std.proofs.lemmas.List.{drop_all}
use Rattle.sql_builtins.specs.Choices as choices
use Rattle.resolved_ast.specs.declared.rex.Rex.{Rex}
use Rattle.resolved_ast.specs.Columns.{rex_type}
use Rattle.resolved_ast.specs.Signatures.{args}
use Rattle.tree_check.specs.Opens.{is_open}
use Rattle.tree_check.proofs.RowsLaws.{standing_end}
use Rattle.tree_check.proofs.rows.standing.Goals as goal

pub returns : goal.returns
returns c =
    let l = c.loop-argument in
    let none = drop_all l.argument-index c.args.arguments.now c.loop-argument-test.false in
    standing_end (is_open c.args.wanted) l.rest.now l.standing.items
    ∙ ap (λ (xs : List Rex). l.standing.items ++ choices.standing (is_open c.args.wanted) l.rest.now (args (map rex_type xs))) (sym none) ∙ l.invariant
