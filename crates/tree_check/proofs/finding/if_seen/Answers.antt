-- What is seen has such a type.
use Rattle.std.proofs.Common.{◌||◌, not, ap, ◌∙◌}
use Rattle.resolved_ast.specs.Columns.{columns}
use Rattle.resolved_ast.specs.Flaws as flaws
use Rattle.tree_check.proofs.finding.if_seen.Goals as goal

pub returns : goal.returns
returns c =
    c.implied.ensures
    ∙ ap (λ b. not b || c.has_such.result) c.is_column-seen.ensures
    ∙ ap (λ b. not (flaws.sees c.args.wanted.now (columns c.args.scan.now)) || b) c.has_such.ensures
