use Rattle.sql_lexer.proofs.Once.{some_answer, one_answer}
use Rattle.sql_lexer.proofs.laws.one_answer.Goals as goal

pub returns : goal.returns
returns c = record { some = λ text. some_answer text; one = λ text left right l m. one_answer text left right l m }
