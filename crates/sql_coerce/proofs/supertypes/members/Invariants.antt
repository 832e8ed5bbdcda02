-- The members so far, before those of the arguments left, are all members.
use Rattle.std.proofs.Common.{◌≡◌, ◌++◌, drop}
use Rattle.sql_coerce.specs.Supertypes.{members}
use Rattle.sql_coerce.proofs.supertypes.members.Given as goal

abbrev pub invariant-loop-argument : goal.invariant-loop-argument
invariant-loop-argument l = l.list.items ++ members (drop l.argument-index l.arguments) ≡ members l.arguments
