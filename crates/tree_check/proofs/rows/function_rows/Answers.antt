-- There are as many rows, and the first of them are those of functions.
use Rattle.std.proofs.Common.{sym}
use Rattle.std.proofs.lemmas.List.{length-take-le}
use Rattle.tree_check.proofs.RowsLaws.{many_rows, first_rows}
use Rattle.tree_check.proofs.rows.function_rows.Goals as goal

pub slice_bounds-result-end : goal.slice_bounds-result-end
slice_bounds-result-end c = sym (length-take-le 105 c.rows.result.now (many_rows c.rows.result.now c.rows.ensures))

pub returns : goal.returns
returns c = first_rows c.rows.result.now c.rows.ensures
