-- What the arguments left say, all say.
use Rattle.std.proofs.Common.{◌≡◌, drop, map}
use Rattle.sql_builtins.specs.Choices as choices
use Rattle.resolved_ast.specs.Columns.{rex_type}
use Rattle.resolved_ast.specs.Signatures.{args, typed_as}
use Rattle.tree_check.proofs.rows.slots_fit.Given as goal

abbrev pub invariant-loop-argument : goal.invariant-loop-argument
invariant-loop-argument l = typed_as (choices.target_types l.common l.element l.rest (args (map rex_type (drop l.argument-index l.arguments)))) (map rex_type (drop l.argument-index l.arguments)) ≡ typed_as (choices.target_types l.common l.element l.slots (args (map rex_type l.arguments))) (map rex_type l.arguments)
