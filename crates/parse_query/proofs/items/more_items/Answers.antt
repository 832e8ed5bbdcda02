use Rattle.std.proofs.Common.{rules}
use Rattle.parse_words.specs.Reads.{reading}
use Rattle.sql_grammar.specs.Queries as queries
use Rattle.parse_query.proofs.items.more_items.Goals as goal

pub returns-clause-reads : goal.returns-clause-reads
returns-clause-reads g c = c.until.ensures.reads (reading c.args.reader.now.tokens.now queries.items_after) (λ place r h. search rules)
