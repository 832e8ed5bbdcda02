-- The part of a list that LIMIT and OFFSET keep.
use Rattle.std.specs.Prelude.{◌≡◌, ℕ, List, take, drop}

-- the first `skip` elements are left out, and of the others the first `count` are kept
abbrev pub cut : {A : Type 0} → List A → ℕ → ℕ → List A
cut list skip count = take count (drop skip list)

-- `kept` is the part that LIMIT `count` OFFSET `skip` keeps
abbrev pub Cut : {A : Type 0} → List A → ℕ → ℕ → List A → Type 0
Cut list skip count kept = kept ≡ cut list skip count
