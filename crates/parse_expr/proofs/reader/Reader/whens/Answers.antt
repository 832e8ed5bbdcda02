use Rattle.std.proofs.Common.{rules}
use Rattle.parse_words.specs.Reads.{reading}
use Rattle.sql_grammar.specs.Exprs as exprs
use Rattle.parse_expr.proofs.reader.Reader.whens.Goals as goal

pub returns-clause-reads : goal.returns-clause-reads
returns-clause-reads g c = c.many_boxed.ensures.reads (reading c.args.self.now.tokens.now exprs.when) (λ place r h. search rules)
