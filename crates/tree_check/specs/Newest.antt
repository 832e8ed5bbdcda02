-- Lists of numbers, the newest first.
use Rattle.std.specs.Prelude.{ℕ, List, [], ◌∷◌, ◌++◌}

-- the same in the other order
abbrev pub newest : List ℕ → List ℕ
newest [] = []
newest (n ∷ ns) = newest ns ++ n ∷ []
