-- The values in the columns so far are written, behind their number.
use Rattle.std.proofs.Common.{◌≡◌, take, fold, flat_map}
use Rattle.key_classes.specs.Classes.{key_of}
use Rattle.key_classes.specs.Fed.{fed_value}
use Rattle.key_classes.proofs.key.KeyHash.hash.Given as goal

abbrev pub invariant-loop-column : goal.invariant-loop-column
invariant-loop-column g l = l.state ≡ fold g.H.Hasher.write l.initial.state (flat_map fed_value (key_of (take l.column-index l.column-items) l.self.row.now))
