-- The reader's answer is the longest front, or a refusal, before whose place an expression and `.` may stand.
use Rattle.std.proofs.Common.{inl, inr, arith}
use Rattle.parse_fronts.specs.ExprFronts.{BeforeStar}
use Rattle.parse_fronts.proofs.FrontLaws.{front_taken, front_all, refused_at}
use Rattle.parse_fronts.proofs.expressions.parse_expression.Goals as goal

pub returns-then-end-len : goal.returns-then-end-len
returns-then-end-len c = (c.in-Ok.ensures.moves, inl (front_taken c.args.tokens.now c.args.at c.requires c.in-Ok.expr c.in-Ok.end (omega arith) c.in-Ok.ensures.reads))

pub returns-else-end-len : goal.returns-else-end-len
returns-else-end-len c =
    rw c.len-in-Ok.ensures (c.requires, inl (front_all c.args.tokens.now c.args.at c.requires c.in-Ok.expr c.in-Ok.end (omega arith) c.in-Ok.ensures.reads))

pub returns-in-Some : goal.returns-in-Some
returns-in-Some c =
    let r = refused_at c.args.tokens.now c.args.at c.requires c.in-Err-Rule.field-0 c.in-Err-Rule.rule c.in-Err-Rule.place c.in-Err-Rule.ensures.reads c.in-Err-Rule.field-0-is in
    let b : BeforeStar c.args.tokens.now c.args.at c.in-Err-Rule.place c.in-Some.found.0 c.in-Some.found.1 = rw c.in-Some.is at c.in_ok-found-in-Err-Rule.ensures in
    (b.up, inr (c.in-Err-Rule.place, r.1, b))

pub returns-in-None : goal.returns-in-None
returns-in-None c =
    let r = refused_at c.args.tokens.now c.args.at c.requires c.in-Err-Rule.field-0 c.in-Err-Rule.rule c.in-Err-Rule.place c.in-Err-Rule.ensures.reads c.in-Err-Rule.field-0-is in
    (r.0, r.1, rw c.in-None.is at c.in_ok-found-in-Err-Rule.ensures)
