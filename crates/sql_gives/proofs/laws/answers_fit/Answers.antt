use Rattle.sql_gives.proofs.TableLaws.{answer_fits}
use Rattle.sql_gives.proofs.laws.answers_fit.Goals as goal

pub returns : goal.returns
returns c = λ sig gives values answer f is. answer_fits sig gives values answer f is
