use Rattle.eval_rows.specs.EqualKeys.{equal_pairs}
use Rattle.eval_rows.proofs.FitLaws.{rows_fit}
use Rattle.eval_rows.proofs.key_joining.join_equal.Goals as goal

pub invariant_of-result : goal.invariant_of-result
invariant_of-result c = record {
  fitting =
      rows_fit c.args.kind c.in_ok-columns.columns c.args.left.now.columns c.args.right.now.columns c.args.left.now.rows c.args.right.now.rows
      (equal_pairs c.args.left_key c.args.right_key c.args.left.now.rows c.args.right.now.rows) c.in_ok-rows.rows
      c.in_ok-columns.ensures c.in_ok-rows.ensures c.args.left.now.fitting c.args.right.now.fitting;
}
