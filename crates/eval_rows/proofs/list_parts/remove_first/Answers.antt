use Rattle.std.proofs.Common.{List, ◌∙◌, ap, arith}
use Rattle.std.specs.List.{remove}
use Rattle.sql_types.specs.Joined.{Row}
use Rattle.eval_rows.proofs.CutLaws.{first_removed}
use Rattle.eval_rows.proofs.list_parts.remove_first.Goals as goal

pub loop-removed-preserved : goal.loop-removed-preserved
loop-removed-preserved c =
    c.remove.ensures.rest ∙ ap (λ (list : List Row). remove list 0) c.loop-removed.invariant ∙ first_removed c.args.list.now c.loop-removed.removed (omega arith)
