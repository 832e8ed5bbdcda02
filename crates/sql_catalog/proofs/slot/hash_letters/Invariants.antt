-- The letters so far are written.
use Rattle.std.proofs.Common.{◌≡◌, take, fold, flat_map}
use Rattle.std.specs.Hash as fed
use Rattle.std.specs.Str.{str_to_ascii_lowercase}
use Rattle.sql_catalog.proofs.slot.hash_letters.Given as goal

abbrev pub invariant-loop-letter : goal.invariant-loop-letter
invariant-loop-letter g l = l.state ≡ fold g.H.Hasher.write l.initial.state (flat_map fed.u8 (str_to_ascii_lowercase (take l.letter-index l.letters)))
