use Rattle.std.proofs.Common.{◌∙◌, List, drop, ap, arith}
use Rattle.sql_types.specs.Joined.{Row}
use Rattle.eval_rows.proofs.CutLaws.{cut_taken, cut_whole}
use Rattle.eval_rows.proofs.cutting.cut_list.Goals as goal
use Rattle.eval_rows.proofs.cutting.cut_list.Goals.{then-take-len, else-take-len}

pub returns : goal.returns
returns c =
    elim c.if-take-len.branch [
      | then-take-len w ↦
          cut_taken c.args.list c.if-take-len.list c.leave_out_first.new.list c.args.skip c.args.take (w.list-is ∙ w.keep_first-then-take-len.ensures) c.leave_out_first.ensures
      | else-take-len w ↦
          cut_whole c.args.list c.leave_out_first.new.list c.args.skip c.args.take (omega arith) (c.leave_out_first.ensures ∙ ap (λ (z : List Row). drop c.args.skip z) w.list-is)
    ]
