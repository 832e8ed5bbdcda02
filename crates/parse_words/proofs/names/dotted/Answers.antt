use Rattle.std.proofs.Common.{rules}
use Rattle.sql_grammar.specs.Words.{dotted, dot_name}
use Rattle.parse_words.proofs.names.dotted.Goals as goal

pub returns-clause-reads : goal.returns-clause-reads
unfolding dotted
returns-clause-reads c = c.many.ensures.reads dot_name (λ place r h. search rules)
