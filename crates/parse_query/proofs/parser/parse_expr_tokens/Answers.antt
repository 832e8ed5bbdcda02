-- What the reader took or refused is the verdict on the tokens.
use Rattle.std.proofs.Common.{arith}
use Rattle.std.proofs.lemmas.Result.{err_from_is_err_and}
use Rattle.sql_ast.specs.Grammar.{ExprOf}
use Rattle.sql_grammar.specs.Knot.{expr_at}
use Rattle.sql_grammar.proofs.Readings.{expr_reads}
use Rattle.parse_query.proofs.Whole.{accepted, refused, refused_behind}
use Rattle.parse_query.proofs.parser.parse_expr_tokens.Goals as goal

pub returns-in_err-expr : goal.returns-in_err-expr
returns-in_err-expr c =
    let p = err_from_is_err_and c.from_residual.result c.from_residual.ensures.1 in
    rw (p.1, p.2) (refused ExprOf expr_at expr_reads c.args.tokens.now c.in_err-expr.field-0.0 c.in_err-expr.ensures.reads)

pub returns-then-at-len : goal.returns-then-at-len
returns-then-at-len c = refused_behind ExprOf expr_at expr_reads c.args.tokens.now c.in_ok-expr.expr c.in_ok-expr.at c.in_ok-expr.ensures.reads (omega arith) c.refusal_at.result c.refusal_at.ensures

pub returns : goal.returns
returns c = accepted ExprOf expr_at expr_reads c.args.tokens.now c.in_ok-expr.expr c.in_ok-expr.at c.in_ok-expr.ensures.reads (omega arith)
