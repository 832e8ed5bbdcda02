-- The left rows so far are joined.
use Rattle.std.proofs.Common.{take}
use Rattle.eval_rows.specs.Joins.{TestGives}
use Rattle.eval_rows.proofs.JoinLaws.{JoinedSo}
use Rattle.eval_rows.proofs.joining.join_lists.Given as goal

abbrev pub invariant-loop-left : goal.invariant-loop-left
invariant-loop-left g l = JoinedSo (TestGives g.P.Fn l.test) l.kind l.right_width l.rights (take l.left-index l.lefts) l.rows l.had
