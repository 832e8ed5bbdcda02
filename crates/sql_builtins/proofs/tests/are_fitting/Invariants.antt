-- The values left fit the types left where all do.
use Rattle.std.proofs.Common.{◌≡◌, drop}
use Rattle.sql_types.specs.Takes.{fits_types}
use Rattle.sql_builtins.proofs.tests.are_fitting.Given as goal

abbrev pub invariant-loop-target : goal.invariant-loop-target
invariant-loop-target l = fits_types (drop l.target-index l.targets) l.rest ≡ fits_types l.targets l.values
