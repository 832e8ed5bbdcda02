-- Of the scan's, or of those that are computed.
use Rattle.std.proofs.Common.{◌++◌, ap, sym, ◌∙◌}
use Rattle.std.specs.Prelude.{is_some, option_copied}
use Rattle.resolved_ast.specs.Columns.{columns, computed_columns}
use Rattle.tree_check.specs.declared.asked.Asked.TheVariants as asked
use Rattle.tree_check.specs.Named.{first_such, or_else}
use Rattle.tree_check.specs.Tests.{passes}
use Rattle.tree_check.proofs.FindingLaws.{found_append, some_such, seen_such}
use Rattle.tree_check.proofs.finding.is_listed.Goals as goal

pub returns : goal.returns
returns c =
    let r = c.args.wanted.now in
    let xs = columns c.args.scan.now in
    let ys = computed_columns c.args.computed.now in
    c.is_there.ensures
    ∙ ap is_some (c.or_else.ensures ∙ ap (λ x. or_else x (option_copied c.such_computed.result)) c.find-found.ensures ∙ ap (or_else (first_such r (passes asked.Anything) xs)) c.such_computed.ensures ∙ sym (found_append r (passes asked.Anything) xs ys))
    ∙ some_such r (passes asked.Anything) (xs ++ ys)
    ∙ seen_such r (xs ++ ys)
