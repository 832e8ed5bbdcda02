-- The test asks for the type of the search value, in a node that is BOOL.
use Rattle.std.proofs.Common.{◌&&◌, ap, ◌∙◌}
use Rattle.sql_types.specs.declared.sql_type.SqlType.{SqlType}
use Rattle.sql_types.specs.declared.sql_type.SqlType.TheVariants as types
use Rattle.sql_types.specs.Comparable.{comparable}
use Rattle.sql_types.specs.SameType.{same_type}
use Rattle.resolved_ast.specs.Flaws.{takes}
use Rattle.tree_check.proofs.subqueries.takes_sought.Goals as goal

pub returns : goal.returns
returns g c =
    let scan = c.args.scan.now in
    c.takes.ensures
    ∙ ap (λ b. takes c.args.column.now scan (λ taken. b && same_type taken c.ty.result.now) comparable) c.same_type.ensures
    ∙ ap (λ (s : SqlType). takes c.args.column.now scan (λ taken. same_type c.args.ty.now types.Bool && same_type taken s) comparable) c.ty.ensures
