use Rattle.sql_constants.proofs.FitLaws.{constant_fits}
use Rattle.sql_constants.proofs.laws.constants_fit.Goals as goal

pub returns : goal.returns
returns c = λ ty text x d. constant_fits ty text x d
