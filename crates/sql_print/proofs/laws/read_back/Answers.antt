use Rattle.sql_print.proofs.ReadBackLaws.{read_back, read_alone}
use Rattle.sql_print.proofs.laws.read_back.Goals as goal

pub returns : goal.returns
returns c = record { spells = λ text query x. read_back text query x; alone = λ text query other x y. read_alone text query other x y }
