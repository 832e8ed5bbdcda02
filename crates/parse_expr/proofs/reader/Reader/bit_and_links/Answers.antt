use Rattle.std.proofs.Common.{rules}
use Rattle.parse_words.specs.Reads.{reading}
use Rattle.sql_ast.specs.Marks as spec
use Rattle.sql_ast.specs.declared.expr.Operator.TheVariants as operator
use Rattle.sql_ast.specs.declared.words.Sign.TheVariants as sign
use Rattle.sql_grammar.specs.Exprs as exprs
use Rattle.parse_expr.proofs.reader.Reader.bit_and_links.Goals as goal

pub returns-clause-reads : goal.returns-clause-reads
returns-clause-reads g c = c.until.ensures.reads (exprs.linked_pending (spec.sign sign.Ampersand) operator.BitAnd (reading c.args.self.now.tokens.now exprs.shift)) (λ place r h. search rules)
