-- The numbers so far.
use Rattle.std.proofs.Common.{◌≡◌, [], take}
use Rattle.sql_types.specs.Parted.{numbers_from}
use Rattle.eval_groups.specs.Groups.{keys_of}
use Rattle.eval_groups.proofs.grouping.one_group.Given as goal

abbrev pub invariant-loop-number : goal.invariant-loop-number
invariant-loop-number l = l.numbers ≡ numbers_from 0 (keys_of [] (take l.number l.rows))
