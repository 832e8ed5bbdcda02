use Rattle.std.proofs.Common.{rules}
use Rattle.parse_words.specs.Reads.{reading}
use Rattle.sql_ast.specs.Marks as spec
use Rattle.sql_ast.specs.declared.expr.Operator.TheVariants as operator
use Rattle.sql_grammar.specs.Exprs as exprs
use Rattle.sql_names.specs.declared.words.Reserved.TheVariants as r
use Rattle.parse_expr.proofs.reader.Reader.conjunction_links.Goals as goal

pub returns-clause-reads : goal.returns-clause-reads
returns-clause-reads g c = c.many_boxed.ensures.reads (exprs.linked (spec.reserved r.And) (λ t. operator.And) (reading c.args.self.now.tokens.now exprs.negation)) (λ place r h. search rules)
