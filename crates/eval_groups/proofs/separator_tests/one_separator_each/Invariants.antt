-- The groups so far have one separator each.
use Rattle.std.proofs.Common.{[], ◌∷◌, take}
use Rattle.std.specs.List.{All}
use Rattle.eval_groups.specs.declared.groups.Group.{Group}
use Rattle.eval_groups.specs.Aggregated.{OneSeparator, lists_of}
use Rattle.eval_groups.proofs.separator_tests.one_separator_each.Given as goal

abbrev pub invariant-loop-group : goal.invariant-loop-group
invariant-loop-group l = All (λ (group : Group). OneSeparator (lists_of l.rows.rows (1 ∷ 2 ∷ 1 ∷ []) group)) (take l.group-index l.group-items)
