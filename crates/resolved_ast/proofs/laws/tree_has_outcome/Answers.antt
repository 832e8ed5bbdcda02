-- By the size of the tree.
use Rattle.resolved_ast.proofs.Outcomes.{tree_has_outcome}
use Rattle.resolved_ast.proofs.laws.tree_has_outcome.Goals as goal

pub returns : goal.returns
returns c = λ tree tables params slots. tree_has_outcome tables params tree slots
