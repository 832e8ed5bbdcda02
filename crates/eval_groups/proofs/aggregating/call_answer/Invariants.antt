-- What was taken from the rows so far.
use Rattle.std.proofs.Common.{◌≡◌, [], map, take, get_or}
use Rattle.key_classes.specs.Classes.{key_of}
use Rattle.eval_groups.proofs.aggregating.call_answer.Given as goal

abbrev pub invariant-loop-number : goal.invariant-loop-number
invariant-loop-number l = record {
  call_is : l.accumulator.call ≡ l.call;
  added : l.accumulator.added ≡ map (λ number. key_of l.places (get_or l.rows.rows number [])) (take l.number-index l.group.rows);
}
