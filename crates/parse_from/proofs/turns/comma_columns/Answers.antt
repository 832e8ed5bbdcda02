use Rattle.std.proofs.Common.{rules}
use Rattle.sql_grammar.specs.Words as words
use Rattle.parse_from.proofs.turns.comma_columns.Goals as goal

pub returns-clause-reads : goal.returns-clause-reads
returns-clause-reads c = c.many.ensures.reads (words.comma_column) (λ place r h. search rules)
