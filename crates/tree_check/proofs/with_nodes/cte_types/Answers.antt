-- One column more has its type, where there is one.
use Rattle.std.proofs.Common.{◌+◌, ◌∷◌, ◌++◌, List, drop, map, arith, ◌∙◌, ap, sym}
use Rattle.std.proofs.lemmas.List.{at_drop_more}
use Rattle.sql_types.specs.declared.sql_type.SqlType.{SqlType}
use Rattle.resolved_ast.specs.declared.column.ColumnRef.{ColumnRef}
use Rattle.tree_check.specs.Sights.{source_columns}
use Rattle.tree_check.specs.TypesNamed.{types_named, types_found}
use Rattle.tree_check.proofs.CteLaws.{named_more}
use Rattle.tree_check.proofs.with_nodes.cte_types.Goals as goal

pub loop-column-preserved : goal.loop-column-preserved
loop-column-preserved c =
    let l = c.loop-column in
    let x = c.column-item.result in
    let made = source_columns c.args.cte.now.scan in
    let before : List SqlType = map (λ ty. ty.now) l.types.items in
    let more = drop (l.column-index + 1) c.args.cte.now.columns.now in
    ap (λ (ts : List SqlType). ts ++ types_named more made) (c.in_ok-add_type.ensures ∙ ap (λ o. before ++ types_found o) c.find_in.ensures)
    ∙ named_more x more made before
    ∙ ap (λ (r : ColumnRef). before ++ types_named (r ∷ more) made) c.column-item.is
    ∙ sym (at_drop_more (λ (rs : List ColumnRef). before ++ types_named rs made) c.args.cte.now.columns.now l.column-index x (omega arith))
    ∙ l.invariant
