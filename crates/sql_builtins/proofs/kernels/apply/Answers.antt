use Rattle.sql_builtins.proofs.FittingLaws.{asks}
use Rattle.sql_builtins.proofs.kernels.apply.Goals as goal

pub apply_row-requires : goal.apply_row-requires
apply_row-requires c = asks c.args.sig c.args.gives.now c.args.values.now c.requires
