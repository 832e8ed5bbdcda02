-- An answer for each right row so far.
use Rattle.std.proofs.Common.{take, Ok}
use Rattle.eval_rows.specs.Joins.{TestGives, Answered}
use Rattle.eval_rows.proofs.joining.answers.Given as goal

abbrev pub invariant-loop-right : goal.invariant-loop-right
invariant-loop-right g l = Answered (TestGives g.P.Fn l.test) l.left (take l.right-index l.rights) (Ok l.kept)
