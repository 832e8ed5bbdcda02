-- The values so far are written.
use Rattle.std.proofs.Common.{◌≡◌, ◌++◌, take, map}
use Rattle.sql_names.specs.Commas.{joined}
use Rattle.sql_ast.specs.Literals.{LiteralText}
use Rattle.sql_ast.proofs.spelling.+literals.Given as goal

abbrev pub invariant-write_literals-loop-place : goal.invariant-write_literals-loop-place
invariant-write_literals-loop-place l = l.out.items ≡ l.initial.out.items ++ joined (map LiteralText (take l.place l.values))
