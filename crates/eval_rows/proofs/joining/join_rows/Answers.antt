use Rattle.eval_rows.specs.Joins.{TestGives}
use Rattle.eval_rows.proofs.FitLaws.{joins_fit}
use Rattle.eval_rows.proofs.joining.join_rows.Goals as goal

pub invariant_of-result : goal.invariant_of-result
invariant_of-result g c = record {
  fitting =
      joins_fit (TestGives g.P.Fn c.args.test.now) c.args.kind c.in_ok-columns.columns c.args.left.now.columns c.args.right.now.columns c.len.result c.len-2.result
      c.args.left.now.rows c.args.right.now.rows c.as_slice.result.now c.as_slice-2.result.now c.in-Ok.rows
      c.in_ok-columns.ensures c.len.ensures c.len-2.ensures c.as_slice.ensures c.as_slice-2.ensures c.in-Ok.ensures c.args.left.now.fitting c.args.right.now.fitting;
}
