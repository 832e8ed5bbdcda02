use Rattle.std.proofs.Common.{◌∙◌, ap, arith}
use Rattle.sql_types.specs.Joined.{Row}
use Rattle.key_classes.specs.Classes.{key_of}
use Rattle.eval_rows.proofs.SetLaws.{column_more}
use Rattle.eval_rows.proofs.set_parts.all_columns.Goals as goal

pub loop-column-preserved : goal.loop-column-preserved
loop-column-preserved c =
    λ (row : Row) within. ap (λ z. key_of z row) c.in_ok-push.ensures.items ∙ column_more c.loop-column.columns.items row c.loop-column.column (c.loop-column.invariant row (omega (arith, within))) (omega (arith, within))
