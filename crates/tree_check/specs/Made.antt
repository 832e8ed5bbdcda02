-- The columns that a node makes, as the code holds them.
use Rattle.std.specs.Prelude.{List, ◌∷◌}
use Rattle.resolved_ast.specs.declared.column.MadeColumn.{MadeColumn}
use Rattle.resolved_ast.specs.Parts.{there}
use Rattle.tree_check.specs.declared.progress.Made.{Made}
use Rattle.tree_check.specs.declared.progress.Made.TheVariants as made

abbrev pub made_of : Made → List MadeColumn
made_of (made.Listed columns) = columns.now
made_of (made.Element element offset) = element.now ∷ there offset.now
