-- Whole texts that are words of a language, or none.
use Rattle.std.specs.Prelude.{◌≡◌, ℕ, ◌+◌, ◌<◌, ◌≤◌, List, length, take}
use Rattle.fronts.specs.Fronts.{Language, Begins}

-- the whole text is a word with this reading, and with no other
pub record Spells {C A : Type 0} (L : Language C A) (text : List C) (a : A) : Type 0 where
  pub spells : L a text
  pub only : (b : A) → L b text → b ≡ a

-- The whole text is no word, and this is the place of its fault: that of the first symbol with which no word begins, or
-- the text's end where there is no such symbol.
pub record NoTree {C A : Type 0} (L : Language C A) (text : List C) (place : ℕ) : Type 0 where
  pub within : place ≤ length text
  pub begun : Begins L (take place text)
  pub ended : place < length text → Begins L (take (place + 1) text) → ⊥
  pub none : (a : A) → L a text → ⊥
