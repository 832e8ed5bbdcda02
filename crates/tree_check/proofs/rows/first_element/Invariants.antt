-- The first element type among the arguments left is the first among all.
use Rattle.std.proofs.Common.{◌≡◌, drop, map}
use Rattle.sql_builtins.specs.Choices as choices
use Rattle.resolved_ast.specs.Columns.{rex_type}
use Rattle.resolved_ast.specs.Signatures.{args}
use Rattle.tree_check.proofs.rows.first_element.Given as goal

abbrev pub invariant-loop-argument : goal.invariant-loop-argument
invariant-loop-argument l = choices.first_element (choices.standing choices.is_array_of_element l.rest (args (map rex_type (drop l.argument-index l.arguments)))) ≡ choices.first_element (choices.standing choices.is_array_of_element l.slots (args (map rex_type l.arguments)))
