-- Lists of pieces of text.
use Rattle.std.specs.Prelude.{ℕ, ◌==◌, if◌then◌else◌, List, [], ◌∷◌, ◌++◌, codes}

-- each piece with a comma and a space before it
abbrev pub continued : List (List ℕ) → List ℕ
continued [] = []
continued (piece ∷ pieces) = (codes ", " ++ piece) ++ continued pieces

-- the pieces, joined by a comma and a space
abbrev pub joined : List (List ℕ) → List ℕ
joined [] = []
joined (piece ∷ pieces) = piece ++ continued pieces

-- what stands before a piece that has so many before it
abbrev pub separator : ℕ → List ℕ
separator place = if place == 0 then [] else codes ", "
