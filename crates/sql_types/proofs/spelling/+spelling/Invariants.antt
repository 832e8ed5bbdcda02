-- The columns so far are written.
use Rattle.std.proofs.Common.{◌≡◌, ◌++◌, take, map}
use Rattle.sql_names.specs.Commas.{joined}
use Rattle.sql_types.specs.TypeText.{column_text}
use Rattle.sql_types.proofs.spelling.+spelling.Given as goal

abbrev pub invariant-write_columns-loop-place : goal.invariant-write_columns-loop-place
invariant-write_columns-loop-place l = l.out.items ≡ l.initial.out.items ++ joined (map column_text (take l.place l.columns))
