-- What stands there so far is written.
use Rattle.std.proofs.Common.{◌≡◌, ◌++◌, take}
use Rattle.sql_ast.specs.Rows as text
use Rattle.sql_ast.proofs.answer_text.write_lines.Given as goal

abbrev pub invariant-loop-row : goal.invariant-loop-row
invariant-loop-row l = l.out.items ≡ l.initial.out.items ++ text.rows_lines (take l.row-index l.rows)
