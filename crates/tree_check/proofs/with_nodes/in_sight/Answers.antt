-- The types are those of the scan's columns.
use Rattle.std.proofs.Common.{List, [], ap, sym, ◌∙◌}
use Rattle.sql_types.specs.declared.sql_type.SqlType.{SqlType}
use Rattle.resolved_ast.specs.declared.column.ColumnRef.{ColumnRef}
use Rattle.resolved_ast.specs.Flaws.{CteSeen}
use Rattle.tree_check.specs.Sights.{source_columns}
use Rattle.tree_check.specs.TypesNamed.{types_named}
use Rattle.tree_check.proofs.CteLaws.{seen_types}
use Rattle.tree_check.proofs.with_nodes.in_sight.Goals as goal

abbrev as_seen : CteSeen → List SqlType → CteSeen
as_seen seen types = record seen { types = types }

pub returns : goal.returns
returns g c =
    let x = c.args.cte.now in
    let scan = g.S.Rows.scan_of x.scan in
    let seen : CteSeen = record { number = x.number; types = [] } in
    ap (as_seen seen)
    (ap (λ (rs : List ColumnRef). types_named rs (source_columns c.rows.result)) c.as_slice.ensures
    ∙ ap (types_named x.columns) c.rows.ensures
    ∙ sym (seen_types x.number x.columns scan (g.S.Part.walk x.scan)))
