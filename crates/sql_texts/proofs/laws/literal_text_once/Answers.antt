use Rattle.sql_texts.proofs.Fronts.{text_of_one}
use Rattle.sql_texts.proofs.laws.literal_text_once.Goals as goal

pub returns : goal.returns
returns c = λ ty left right fit also same. text_of_one ty left right fit also same
