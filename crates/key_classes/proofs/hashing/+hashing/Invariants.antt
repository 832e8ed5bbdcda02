-- The values so far are written, behind their number.
use Rattle.std.proofs.Common.{◌≡◌, take, fold, flat_map}
use Rattle.key_classes.specs.Fed.{fed_value}
use Rattle.key_classes.proofs.hashing.+hashing.Given as goal

abbrev pub invariant-hash_values-loop-value : goal.invariant-hash_values-loop-value
invariant-hash_values-loop-value g l = l.state ≡ fold g.H.Hasher.write l.initial.state (flat_map fed_value (take l.value-index l.values))
