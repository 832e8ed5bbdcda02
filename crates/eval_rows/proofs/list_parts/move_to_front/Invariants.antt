-- The rows that are moved, and those that wait.
use Rattle.eval_rows.proofs.CutLaws.{Moved}
use Rattle.eval_rows.proofs.list_parts.move_to_front.Given as goal

abbrev pub invariant-loop-waiting : goal.invariant-loop-waiting
invariant-loop-waiting l = Moved l.fn.list l.list l.left_out l.kept l.waiting

abbrev pub decreases-loop-waiting : goal.decreases-loop-waiting
decreases-loop-waiting l = l.waiting
