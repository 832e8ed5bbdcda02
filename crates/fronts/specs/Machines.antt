-- Machines that go over a text symbol by symbol.
use Rattle.std.specs.Prelude.{ℕ, ◌+◌, List, [], ◌∷◌, Option, Some, None}

-- how many symbols a machine goes over until no step is there, and the state in which it then stands
unfoldable pub walk : {C S : Type 0} → (S → C → Option S) → S → List C → ℕ × S
walk step at [] = (0, at)
walk step at (x ∷ more) = elim (step at x) [ None ↦ (0, at) | Some next ↦ let w = walk step next more in (w.0 + 1, w.1) ]

-- the same from a place on: the place where it stops
abbrev pub ahead : {S : Type 0} → ℕ → ℕ × S → ℕ × S
ahead from w = (w.0 + from, w.1)
