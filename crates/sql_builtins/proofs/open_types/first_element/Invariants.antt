-- The first element type among the arguments left is the first among all.
use Rattle.std.proofs.Common.{◌≡◌, drop}
use Rattle.sql_builtins.specs.Choices as choices
use Rattle.sql_builtins.proofs.open_types.first_element.Given as goal

abbrev pub invariant-loop-argument : goal.invariant-loop-argument
invariant-loop-argument l =
    choices.first_element (choices.standing choices.is_array_of_element l.rest (drop l.argument-index l.arguments)) ≡ choices.first_element (choices.standing choices.is_array_of_element l.slots l.arguments)
