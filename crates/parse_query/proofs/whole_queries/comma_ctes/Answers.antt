use Rattle.std.proofs.Common.{rules}
use Rattle.parse_words.specs.Reads.{reading}
use Rattle.sql_grammar.specs.Queries as queries
use Rattle.parse_query.proofs.whole_queries.comma_ctes.Goals as goal

pub returns-clause-reads : goal.returns-clause-reads
returns-clause-reads g c = c.many_boxed.ensures.reads (reading c.args.reader.now.tokens.now queries.comma_cte) (λ place r h. search rules)
