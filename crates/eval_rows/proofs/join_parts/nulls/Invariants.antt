use Rattle.std.proofs.Common.{◌≡◌, replicate}
use Rattle.sql_types.specs.declared.value.Value.TheVariants.{Null}
use Rattle.eval_rows.proofs.join_parts.nulls.Given as goal

abbrev pub invariant-loop-made : goal.invariant-loop-made
invariant-loop-made l = l.row ≡ replicate l.made Null
