-- The cost of the arguments left, behind the coercions so far, is that of all.
use Rattle.std.proofs.Common.{◌≡◌, ◌≤◌, drop}
use Rattle.sql_builtins.specs.Steps.{cost_at, with_more}
use Rattle.sql_builtins.proofs.costs.cost_at.Given as goal

abbrev pub invariant-loop-argument : goal.invariant-loop-argument
invariant-loop-argument l = record {
  few_others : l.others ≤ l.argument-index;
  few_literals : l.literals ≤ l.argument-index;
  same : with_more l.others l.literals (cost_at l.common l.element l.rest (drop l.argument-index l.arguments)) ≡ cost_at l.common l.element l.slots l.arguments;
}
