-- The rows fit their columns, so their dates do.
use Rattle.std.proofs.Common.{List, ap, ◌∙◌}
use Rattle.std.specs.List.{list_all}
use Rattle.sql_types.specs.declared.value.Value.{Value}
use Rattle.sql_ast.specs.Literals.{dates_fit}
use Rattle.sql_ast.proofs.DatesFitLaws.{rows_dated}
use Rattle.sql_ast.proofs.answer_text.rows_text.Goals as goal

pub write_lines-requires : goal.write_lines-requires
write_lines-requires c =
    ap (λ (rows : List (List Value)). list_all (λ row. list_all dates_fit row) rows) c.as_slice-2.ensures ∙ rows_dated c.args.rows.now.columns c.args.rows.now.rows c.args.rows.now.fitting
