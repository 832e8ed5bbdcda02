-- No value so far is NULL.
use Rattle.std.proofs.Common.{◌≡◌, drop}
use Rattle.sql_types.specs.Takes as takes
use Rattle.sql_builtins.proofs.liked.some_null.Given as goal

abbrev pub invariant-loop-value : goal.invariant-loop-value
invariant-loop-value l = takes.some_null (drop l.value-index l.values) ≡ takes.some_null l.values
