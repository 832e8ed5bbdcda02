-- Texts between marks.
use Rattle.std.specs.Prelude.{ℕ, ◌+◌, ◌-◌, ◌≤◌, List, length, IsCharBoundary}

-- so many bytes at the start of the text and so many at its end may be cut off, between characters
pub record Marked (text : List ℕ) (front back : ℕ) : Type 0 where
  pub room : front + back ≤ length text
  pub starts : IsCharBoundary text front
  pub stops : IsCharBoundary text (length text - back)
