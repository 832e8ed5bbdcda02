use Rattle.std.proofs.Common.{◌≡◌, [], ◌∷◌}
use Rattle.sql_types.specs.declared.sql_type.SqlType.TheVariants.{Int64}
use Rattle.eval_rows.specs.Sets.{column_types}
use Rattle.eval_rows.proofs.tests.rows_of.Given as goal

abbrev pub invariant-loop-first : goal.invariant-loop-first
invariant-loop-first l = column_types l.rows ≡ Int64 ∷ Int64 ∷ []
