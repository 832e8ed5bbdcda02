use Rattle.std.proofs.Common.{rules}
use Rattle.parse_words.specs.Reads.{reading}
use Rattle.sql_grammar.specs.Queries as queries
use Rattle.parse_query.proofs.set_operations.more_terms.Goals as goal

pub returns-clause-reads : goal.returns-clause-reads
returns-clause-reads g c = c.following.ensures.reads (reading c.args.reader.now.tokens.now queries.set_item c.args.kind) (λ place x r h. search rules)
