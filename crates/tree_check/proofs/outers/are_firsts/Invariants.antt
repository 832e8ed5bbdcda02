-- What the numbers left say, all say.
use Rattle.std.proofs.Common.{◌≡◌, drop}
use Rattle.resolved_ast.specs.Columns.{firsts}
use Rattle.resolved_ast.specs.Flaws.{same_numbers}
use Rattle.tree_check.proofs.outers.are_firsts.Given as goal

abbrev pub invariant-loop-number : goal.invariant-loop-number
invariant-loop-number l = same_numbers l.rest (firsts l.known (drop l.number-index l.numbers)) ≡ same_numbers l.list (firsts l.initial.known l.numbers)
