-- By the walk that finds no flaw, and by what each row of the signature table answers.
use Rattle.sql_gives.proofs.TableLaws.{answer_fits}
use Rattle.tree_fits.proofs.TreeFits.{tree_fits}
use Rattle.tree_fits.proofs.laws.tree_outcomes_fit.Goals as goal

pub returns : goal.returns
returns c = λ tree tables params slots rows valid fitting given. tree_fits answer_fits tables params tree slots rows valid fitting given
