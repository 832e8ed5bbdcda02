use Rattle.eval_groups.proofs.AggregateLaws.{type_of_column}
use Rattle.eval_groups.proofs.aggregating.type_at.Goals as goal

pub returns : goal.returns
returns c = type_of_column c.args.rows.now.columns c.as_slice.result.now c.args.place c.index-as_slice-place.result c.requires c.as_slice.ensures
