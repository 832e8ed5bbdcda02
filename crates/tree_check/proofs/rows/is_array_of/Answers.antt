-- An ARRAY's element type tells.
use Rattle.std.proofs.Common.{sym, ◌∙◌}
use Rattle.tree_check.proofs.RowsLaws.{array_same}
use Rattle.tree_check.proofs.rows.is_array_of.Goals as goal

pub returns : goal.returns
returns c = c.is_element.ensures ∙ sym (array_same c.args.element.now c.args.ty.now)
