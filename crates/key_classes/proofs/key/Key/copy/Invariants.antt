-- The values in the columns so far.
use Rattle.std.proofs.Common.{◌≡◌, take}
use Rattle.key_classes.specs.Classes.{key_of}
use Rattle.key_classes.proofs.key.Key.copy.Given as goal

abbrev pub invariant-loop-column : goal.invariant-loop-column
invariant-loop-column l = l.values ≡ key_of (take l.column-index l.column-items) l.self.row.now
