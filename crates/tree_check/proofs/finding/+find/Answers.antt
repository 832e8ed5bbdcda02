-- The first such column, by the form of the scan.
use Rattle.std.proofs.Common.{◌∷◌, ◌++◌, sym, ap, ◌∙◌}
use Rattle.std.specs.Prelude.{option_copied}
use Rattle.resolved_ast.specs.declared.rex.Rex.TheOpen as layer
use Rattle.resolved_ast.specs.declared.scan.Scan.{out-Scan}
use Rattle.resolved_ast.specs.declared.scan.Scan.TheVariants as scan
use Rattle.resolved_ast.specs.Columns.{columns, computed_columns}
use Rattle.resolved_ast.specs.Parts.{there}
use Rattle.tree_check.specs.Named.{first_such, names, or_else, where_so}
use Rattle.tree_check.specs.Tests.{passes}
use Rattle.tree_check.proofs.FindingLaws.{columns_as, found_append, found_listed}
use Rattle.tree_check.proofs.finding.+find.Goals as goal

pub returns-in-Single : goal.returns-in-Single
returns-in-Single t c = ap (first_such c.args.wanted.now (passes c.args.asked.now)) (sym (columns_as c.args.scan.now layer.Single (ap out-Scan c.in-Single.is ∙ scan.outs-Single)))

pub returns-in-Table : goal.returns-in-Table
returns-in-Table t c = c.such_of.ensures ∙ ap (first_such c.args.wanted.now (passes c.args.asked.now)) c.as_slice.ensures ∙ ap (first_such c.args.wanted.now (passes c.args.asked.now)) (sym (columns_as c.args.scan.now (layer.Table c.in-Table.name c.in-Table.number c.in-Table.columns) (ap out-Scan c.in-Table.is ∙ scan.outs-Table c.in-Table.name c.in-Table.number c.in-Table.columns)))

pub returns-in-CteRef : goal.returns-in-CteRef
returns-in-CteRef t c = c.such_of-in-CteRef.ensures ∙ ap (first_such c.args.wanted.now (passes c.args.asked.now)) c.as_slice-in-CteRef.ensures ∙ ap (first_such c.args.wanted.now (passes c.args.asked.now)) (sym (columns_as c.args.scan.now (layer.CteRef c.in-CteRef.number c.in-CteRef.columns) (ap out-Scan c.in-CteRef.is ∙ scan.outs-CteRef c.in-CteRef.number c.in-CteRef.columns)))

pub returns-in-With : goal.returns-in-With
returns-in-With t c = c.find.ensures ∙ ap (λ s. first_such c.args.wanted.now (passes c.args.asked.now) (columns s)) c.get.ensures ∙ ap (first_such c.args.wanted.now (passes c.args.asked.now)) (sym (columns_as c.args.scan.now (layer.With c.in-With.ctes c.in-With.scan) (ap out-Scan c.in-With.is ∙ scan.outs-With c.in-With.ctes c.in-With.scan)))

pub returns-in-Filter : goal.returns-in-Filter
returns-in-Filter t c = c.find-in-Filter.ensures ∙ ap (λ s. first_such c.args.wanted.now (passes c.args.asked.now) (columns s)) c.get-in-Filter.ensures ∙ ap (first_such c.args.wanted.now (passes c.args.asked.now)) (sym (columns_as c.args.scan.now (layer.Filter c.in-Filter.scan c.in-Filter.condition) (ap out-Scan c.in-Filter.is ∙ scan.outs-Filter c.in-Filter.scan c.in-Filter.condition)))

pub returns-in-Unnest : goal.returns-in-Unnest
returns-in-Unnest t c = c.or_else.ensures
    ∙ ap (λ x. or_else x (option_copied c.such_made.result)) (c.find-found.ensures ∙ ap (λ s. first_such c.args.wanted.now (passes c.args.asked.now) (columns s)) c.get-in-Unnest.ensures)
    ∙ ap (or_else (first_such c.args.wanted.now (passes c.args.asked.now) (columns c.in-Unnest.scan))) c.such_made.ensures
    ∙ sym (found_append c.args.wanted.now (passes c.args.asked.now) (columns c.in-Unnest.scan) (c.in-Unnest.element ∷ there c.in-Unnest.offset))
    ∙ ap (first_such c.args.wanted.now (passes c.args.asked.now)) (sym (columns_as c.args.scan.now (layer.Unnest c.in-Unnest.kind c.in-Unnest.element c.in-Unnest.offset c.in-Unnest.scan c.in-Unnest.array c.in-Unnest.condition) (ap out-Scan c.in-Unnest.is ∙ scan.outs-Unnest c.in-Unnest.kind c.in-Unnest.element c.in-Unnest.offset c.in-Unnest.scan c.in-Unnest.array c.in-Unnest.condition)))

pub returns-in-Join : goal.returns-in-Join
returns-in-Join t c = c.or_else-in-Join.ensures
    ∙ ap (λ x. or_else x (option_copied c.find-second.result)) (c.find-first.ensures ∙ ap (λ s. first_such c.args.wanted.now (passes c.args.asked.now) (columns s)) c.get-left.ensures)
    ∙ ap (or_else (first_such c.args.wanted.now (passes c.args.asked.now) (columns c.in-Join.left))) (c.find-second.ensures ∙ ap (λ s. first_such c.args.wanted.now (passes c.args.asked.now) (columns s)) c.get-right.ensures)
    ∙ sym (found_append c.args.wanted.now (passes c.args.asked.now) (columns c.in-Join.left) (columns c.in-Join.right))
    ∙ ap (first_such c.args.wanted.now (passes c.args.asked.now)) (sym (columns_as c.args.scan.now (layer.Join c.in-Join.kind c.in-Join.left c.in-Join.right c.in-Join.condition) (ap out-Scan c.in-Join.is ∙ scan.outs-Join c.in-Join.kind c.in-Join.left c.in-Join.right c.in-Join.condition)))

pub returns-in-Project : goal.returns-in-Project
returns-in-Project t c = c.where_so.ensures
    ∙ ap (λ b. where_so b (option_copied c.or_else-any.result)) (c.names.ensures ∙ ap (names c.args.wanted.now) c.as_slice-list.ensures)
    ∙ ap (where_so (names c.args.wanted.now c.in-Project.columns)) (c.or_else-any.ensures
    ∙ ap (λ x. or_else x (option_copied c.such_computed.result)) (c.find-found-in-Project.ensures ∙ ap (λ s. first_such c.args.wanted.now (passes c.args.asked.now) (columns s)) c.get-in-Project.ensures)
    ∙ ap (or_else (first_such c.args.wanted.now (passes c.args.asked.now) (columns c.in-Project.scan))) (c.such_computed.ensures ∙ ap (λ cs. first_such c.args.wanted.now (passes c.args.asked.now) (computed_columns cs)) c.as_slice-made.ensures)
    ∙ sym (found_append c.args.wanted.now (passes c.args.asked.now) (columns c.in-Project.scan) (computed_columns c.in-Project.computed)))
    ∙ sym (found_listed c.args.wanted.now (passes c.args.asked.now) c.in-Project.columns (columns c.in-Project.scan ++ computed_columns c.in-Project.computed))
    ∙ ap (first_such c.args.wanted.now (passes c.args.asked.now)) (sym (columns_as c.args.scan.now (layer.Project c.in-Project.columns c.in-Project.scan c.in-Project.computed) (ap out-Scan c.in-Project.is ∙ scan.outs-Project c.in-Project.columns c.in-Project.scan c.in-Project.computed)))
