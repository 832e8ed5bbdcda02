-- What the reader took or refused is the verdict on the tokens.
use Rattle.std.proofs.Common.{arith}
use Rattle.std.proofs.lemmas.Result.{err_from_is_err_and}
use Rattle.sql_ast.specs.Grammar.{TextOf}
use Rattle.sql_grammar.specs.Knot.{text_at}
use Rattle.sql_grammar.proofs.Readings.{text_reads}
use Rattle.parse_query.proofs.Whole.{accepted, refused, refused_behind}
use Rattle.parse_query.proofs.parser.parse_tokens.Goals as goal

pub returns-in_err-query : goal.returns-in_err-query
returns-in_err-query c =
    let p = err_from_is_err_and c.from_residual.result c.from_residual.ensures.1 in
    rw (p.1, p.2) (refused TextOf text_at text_reads c.args.tokens.now c.in_err-query.field-0.0 c.in_err-query.ensures.reads)

pub returns-then-at-len : goal.returns-then-at-len
returns-then-at-len c = refused_behind TextOf text_at text_reads c.args.tokens.now c.in_ok-query.query c.in_ok-query.at c.in_ok-query.ensures.reads (omega arith) c.refusal_at.result c.refusal_at.ensures

pub returns : goal.returns
returns c = accepted TextOf text_at text_reads c.args.tokens.now c.in_ok-query.query c.in_ok-query.at c.in_ok-query.ensures.reads (omega arith)
