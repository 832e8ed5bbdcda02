-- What the right rows that are left give comes behind what was given so far.
use Rattle.std.proofs.Common.{◌≡◌, ◌++◌, drop}
use Rattle.eval_rows.specs.Met.{unmet}
use Rattle.eval_rows.proofs.join_parts.unmet_rows.Given as goal

abbrev pub invariant-loop-right : goal.invariant-loop-right
invariant-loop-right l = l.rows ++ unmet l.left_width (drop l.right-index l.rights) l.rest ≡ unmet l.left_width l.rights l.had
