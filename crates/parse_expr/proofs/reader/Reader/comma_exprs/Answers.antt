use Rattle.std.proofs.Common.{rules}
use Rattle.parse_words.specs.Reads.{reading}
use Rattle.sql_ast.specs.Marks as spec
use Rattle.sql_ast.specs.declared.words.Sign.TheVariants as sign
use Rattle.sql_grammar.specs.Exprs as exprs
use Rattle.parse_expr.proofs.reader.Reader.comma_exprs.Goals as goal

pub returns-clause-reads : goal.returns-clause-reads
returns-clause-reads g c = c.many_boxed.ensures.reads (reading c.args.self.now.tokens.now exprs.after (spec.sign sign.Comma)) (λ place r h. search rules)
