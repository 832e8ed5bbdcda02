-- What the right rows that are left give comes behind what was given so far.
use Rattle.std.proofs.Common.{◌≡◌, ◌++◌, drop}
use Rattle.sql_types.specs.Joined as joined
use Rattle.eval_rows.proofs.join_parts.met_rows.Given as goal

abbrev pub invariant-loop-right : goal.invariant-loop-right
invariant-loop-right l = l.rows ++ joined.met l.left (drop l.right-index l.rights) l.rest ≡ joined.met l.left l.rights l.kept
