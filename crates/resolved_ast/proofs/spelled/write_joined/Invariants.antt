-- The parts so far are written.
use Rattle.std.proofs.Common.{◌≡◌, ◌++◌, take, map}
use Rattle.sql_names.specs.Commas.{joined}
use Rattle.resolved_ast.proofs.spelled.write_joined.Given as goal

abbrev pub invariant-loop-place : goal.invariant-loop-place
invariant-loop-place g l = l.out.items ≡ l.initial.out.items ++ joined (map g.C.Spelled.spelled (take l.place l.list))
