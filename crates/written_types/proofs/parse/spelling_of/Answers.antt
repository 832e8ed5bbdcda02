-- What the reader took or refused is the verdict on the tokens.
use Rattle.std.proofs.Common.{arith}
use Rattle.std.proofs.lemmas.Result.{err_from_is_err_and}
use Rattle.written_types.proofs.Whole.{accepted, refused, refused_behind}
use Rattle.written_types.proofs.parse.spelling_of.Goals as goal

pub returns-in_err-spelling : goal.returns-in_err-spelling
returns-in_err-spelling c =
    let p = err_from_is_err_and c.from_residual.result c.from_residual.ensures.1 in
    rw (p.1, p.2) (refused c.args.tokens.now c.in_err-spelling.field-0.0 c.in_err-spelling.ensures.reads)

pub returns-then-at-len : goal.returns-then-at-len
returns-then-at-len c = refused_behind c.args.tokens.now c.in_ok-spelling.spelling c.in_ok-spelling.at c.in_ok-spelling.ensures.reads (omega arith) c.refusal_at.result c.refusal_at.ensures

pub returns : goal.returns
returns c = accepted c.args.tokens.now c.in_ok-spelling.spelling c.in_ok-spelling.at c.in_ok-spelling.ensures.reads (omega arith)
