use Rattle.sql_texts.proofs.RowLaws.{rows_once}
use Rattle.sql_texts.proofs.laws.rows_text_once.Goals as goal

pub returns : goal.returns
returns c = λ columns left right fit also same. rows_once columns left right fit also same
