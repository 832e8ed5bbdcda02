-- The text of a tree tells the tree.
use Rattle.tree_texts.proofs.TextLaws.{trees_once}
use Rattle.tree_texts.proofs.laws.tree_text_once.Goals as goal

pub returns : goal.returns
returns c = trees_once
