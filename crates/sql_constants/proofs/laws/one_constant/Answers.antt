use Rattle.sql_constants.proofs.Texts.{value_holds, constant_once}
use Rattle.sql_constants.proofs.laws.one_constant.Goals as goal

pub returns : goal.returns
returns c = record { some = λ ty text. value_holds ty text; one = λ ty text left right l m. constant_once ty text left right l m }
