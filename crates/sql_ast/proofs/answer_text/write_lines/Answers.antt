-- One line more is written.
use Rattle.std.proofs.Common.{◌++◌, List, refl, ap, ◌∙◌, arith}
use Rattle.sql_types.specs.declared.value.Value.{Value}
use Rattle.sql_ast.specs.Rows.{row_text, rows_lines}
use Rattle.sql_names.proofs.Written.{InPieces, wrote_more}
use Rattle.sql_ast.proofs.answer_text.write_lines.Goals as goal

lines_in_pieces : InPieces rows_lines row_text
lines_in_pieces = record { none = refl; more = λ x xs. refl }

pub loop-row-preserved : goal.loop-row-preserved
loop-row-preserved c =
    wrote_more lines_in_pieces c.args.rows.now c.loop-row.row-index c.row-item.result (omega arith) c.row-item.is c.args.out.now.items c.loop-row.out.items c.write_row.new.out.items
    (c.in_ok-write_row.ensures ∙ ap (λ (row : List Value). c.loop-row.out.items ++ row_text row) c.as_slice.ensures)
    c.loop-row.invariant
