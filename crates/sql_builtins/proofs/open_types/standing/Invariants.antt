-- Those that stand among the arguments left are those among all.
use Rattle.std.proofs.Common.{◌≡◌, true, length, drop}
use Rattle.sql_builtins.specs.Choices as choices
use Rattle.sql_builtins.specs.Opened.{is_open}
use Rattle.sql_builtins.specs.Steps.{at_end}
use Rattle.sql_builtins.proofs.open_types.standing.Given as goal

abbrev pub invariant-loop-slot : goal.invariant-loop-slot
invariant-loop-slot l = record {
  ends : at_end (is_open l.wanted) (drop l.slot-index l.slots) ≡ true;
  as_many : length (drop l.slot-index l.slots) ≡ length l.rest;
  same : choices.standing (is_open l.wanted) (drop l.slot-index l.slots) l.rest ≡ choices.standing (is_open l.wanted) l.slots l.arguments;
}
