-- The left rows so far are joined.
use Rattle.std.proofs.Common.{take, length}
use Rattle.eval_rows.proofs.JoinLaws.{JoinedSo}
use Rattle.eval_rows.proofs.KeyLaws.{GivesEqual}
use Rattle.eval_rows.proofs.key_joining.equal_rows.Given as goal

abbrev pub invariant-loop-item : goal.invariant-loop-item
invariant-loop-item l = JoinedSo (GivesEqual l.left_key l.fn.right_key) l.kind (length l.right.columns) l.right.rows (take l.item-index l.left.rows) l.rows l.had
