-- The arguments so far, before those that stand among the ones left, are all.
use Rattle.std.proofs.Common.{◌≡◌, ◌++◌, drop, map}
use Rattle.sql_builtins.specs.Choices as choices
use Rattle.resolved_ast.specs.Columns.{rex_type}
use Rattle.resolved_ast.specs.Signatures.{args}
use Rattle.tree_check.specs.Opens.{is_open}
use Rattle.tree_check.proofs.rows.standing.Given as goal

abbrev pub invariant-loop-argument : goal.invariant-loop-argument
invariant-loop-argument l = l.standing.items ++ choices.standing (is_open l.wanted) l.rest (args (map rex_type (drop l.argument-index l.arguments))) ≡ choices.standing (is_open l.wanted) l.slots (args (map rex_type l.arguments))
