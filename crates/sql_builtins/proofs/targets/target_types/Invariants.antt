-- The types so far, before those of the arguments left, are all types.
use Rattle.std.proofs.Common.{◌≡◌, ◌++◌, drop}
use Rattle.sql_builtins.specs.Choices as choices
use Rattle.sql_builtins.proofs.targets.target_types.Given as goal

abbrev pub invariant-loop-argument : goal.invariant-loop-argument
invariant-loop-argument l =
    l.targets ++ choices.target_types l.common l.element l.rest (drop l.argument-index l.arguments) ≡ choices.target_types l.common l.element l.slots l.arguments
