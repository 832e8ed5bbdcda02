-- The reader takes all of the tokens before the end, or they are no expression.
use Rattle.std.proofs.Common.{arith}
use Rattle.parse_fronts.proofs.PartLaws.{not_all, not_refused, all_spelled}
use Rattle.parse_fronts.proofs.stars.part_expr.Goals as goal

pub returns-then-behind-end : goal.returns-then-behind-end
returns-then-behind-end c =
    not_all c.args.tokens.now c.in_ok-front.front c.args.at c.args.end c.in_ok-front.ensures c.requires.up c.requires.within c.in-Ok.expr c.in-Ok.behind c.in-Ok.ensures.reads (omega arith)

pub returns-in-Ok : goal.returns-in-Ok
returns-in-Ok c =
    all_spelled c.args.tokens.now c.in_ok-front.front c.args.at c.args.end c.in_ok-front.ensures c.requires.up c.requires.within c.in-Ok.expr c.in-Ok.behind c.in-Ok.ensures.reads (omega arith)

pub returns-in-Err-Rule : goal.returns-in-Err-Rule
returns-in-Err-Rule c =
    not_refused c.args.tokens.now c.in_ok-front.front c.args.at c.args.end c.in_ok-front.ensures c.requires.up c.requires.within c.in-Err-Rule.field-0 c.in-Err-Rule.field-0-0 c.in-Err-Rule.field-0-1
    c.in-Err-Rule.ensures.reads c.in-Err-Rule.field-0-is
