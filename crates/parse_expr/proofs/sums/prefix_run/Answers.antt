use Rattle.std.proofs.Common.{List, rules, subst}
use Rattle.fronts.specs.Readers.{many}
use Rattle.sql_ast.specs.Trees as trees
use Rattle.sql_grammar.specs.Exprs.{prefix, tells}
use Rattle.parse_words.specs.Reads.{from, turns, Reads}
use Rattle.parse_expr.proofs.sums.prefix_run.Goals as goal

pub returns-clause-reads : goal.returns-clause-reads
returns-clause-reads c =
    let read = c.many.ensures.reads prefix (λ place r h. search rules) in
    subst (λ (found : List _). Reads c.args.tokens.now (many (tells trees.prefix_of) prefix (turns c.args.tokens.now) found (from c.args.tokens.now c.args.at)) c.many.result) c.new.ensures read
