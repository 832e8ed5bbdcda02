use Rattle.std.proofs.Common.{rules}
use Rattle.sql_grammar.specs.Words.{comma_name}
use Rattle.parse_words.proofs.names.more_names.Goals as goal

pub returns-clause-reads : goal.returns-clause-reads
returns-clause-reads c = c.many.ensures.reads comma_name (λ place r h. search rules)
