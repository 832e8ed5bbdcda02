-- Each byte of a slice is below 256.
use Rattle.std.proofs.Common.{◌≡◌, ℕ, suc, ◌<◌, true, List, [], ◌∷◌, slice_index_or, nat_lt, refl, sym, arith, lt-ltb}
use Rattle.std.specs.List.{list_all}
use Rattle.sql_types.proofs.fitting.are_bytes.Goals as goal

all_below : (bytes : List ℕ) → ((k : ℕ) → slice_index_or bytes k 0 < 256) → list_all (λ b. nat_lt b 256) bytes ≡ true
all_below [] below = refl
all_below (b ∷ bytes) below = rw (lt-ltb b 256 (below 0)) (all_below bytes (λ k. below (suc k)))

pub returns : goal.returns
returns c = sym (all_below c.args.bytes.now (λ k. omega (arith, c.type_inv.bytes k)))
