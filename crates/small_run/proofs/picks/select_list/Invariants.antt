-- Each item so far picks its column and its place.
use Rattle.std.proofs.Common.{take}
use Rattle.small_run.proofs.Selection.{EachPicks}
use Rattle.small_run.proofs.picks.select_list.Given as goal

abbrev pub invariant-loop-item : goal.invariant-loop-item
invariant-loop-item l = EachPicks l.table (take l.item-index l.items) l.columns l.slots
