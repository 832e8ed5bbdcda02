-- What is found is all that the columns so far have of the name.
use Rattle.std.proofs.Common.{◌≡◌, take}
use Rattle.std.specs.Option.{option_to_list}
use Rattle.sql_rules.specs.Scopes as scopes
use Rattle.sql_rules.specs.Tables.{column_entries}
use Rattle.small_run.proofs.columns.only_column.Given as goal

abbrev pub invariant-loop-place : goal.invariant-loop-place
invariant-loop-place l = scopes.columns l.name (column_entries (take l.place l.columns)) ≡ option_to_list l.found
