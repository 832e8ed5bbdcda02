use Rattle.std.proofs.Common.{List, rules, subst}
use Rattle.fronts.specs.Readers.{many}
use Rattle.sql_names.specs.declared.words.Reserved.TheVariants as r
use Rattle.sql_ast.specs.Marks as spec
use Rattle.sql_grammar.specs.Exprs.{not_place}
use Rattle.parse_words.specs.Reads.{from, turns, Reads}
use Rattle.parse_expr.proofs.logic.not_run.Goals as goal

pub returns-clause-reads : goal.returns-clause-reads
returns-clause-reads c =
    let read = c.many.ensures.reads not_place (λ place r h. search rules) in
    subst (λ (found : List _). Reads c.args.tokens.now (many (spec.reserved r.Not) not_place (turns c.args.tokens.now) found (from c.args.tokens.now c.args.at)) c.many.result) c.new.ensures read
