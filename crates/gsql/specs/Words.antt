-- The words of the command line.
use Rattle.std.specs.Prelude.{ℕ, Bool, true, false, not, ◌&&◌, ◌==◌, if◌then◌else◌, List, [], ◌∷◌, Option, Some, None, codes}
use Rattle.std.specs.Str.{bytes_eq}

-- a word that begins with `-`
abbrev pub is_flag : List ℕ → Bool
is_flag [] = false
is_flag (b ∷ bs) = b == 45

-- The names of a catalog and of a query behind the word `run`. Neither begins with `-`. Every other list of words asks for
-- nothing.
abbrev pub asked : List (List ℕ) → Option (List ℕ × List ℕ)
asked (mode ∷ catalog ∷ query ∷ []) =
    if (bytes_eq mode (codes "run") && not (is_flag catalog)) && not (is_flag query) then Some (catalog, query) else None
asked _ = None
