use Rattle.std.proofs.Common.{rules}
use Rattle.parse_words.specs.Reads.{reading}
use Rattle.sql_ast.specs.Trees as trees
use Rattle.sql_ast.specs.declared.expr.Operator.TheVariants as operator
use Rattle.sql_grammar.specs.Exprs as exprs
use Rattle.parse_expr.proofs.reader.Reader.sum_links.Goals as goal

pub returns-clause-reads : goal.returns-clause-reads
returns-clause-reads g c = c.many_boxed.ensures.reads (exprs.linked (exprs.tells trees.sum_of) (exprs.told operator.Add trees.sum_of) (reading c.args.self.now.tokens.now exprs.product)) (λ place r h. search rules)
