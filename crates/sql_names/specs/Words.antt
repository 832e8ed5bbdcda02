-- The reserved words, and when two names are the same.
use Rattle.std.specs.Prelude.{ℕ, Bool, if◌then◌else◌, List, [], ◌∷◌, map, Option, Some, None}
use Rattle.std.specs.Str.{str_eq_ignore_ascii_case}
use Rattle.sql_names.specs.declared.words.Reserved.{Reserved}
use Rattle.sql_names.specs.declared.words.TheConstants.{RESERVED}

-- two names are the same where they are equal after ASCII letters are made lower case
abbrev pub same_name : List ℕ → List ℕ → Bool
same_name left right = str_eq_ignore_ascii_case left right

-- the first entry with these letters, case aside
abbrev pub find_word : {A : Type 0} → List (List ℕ × A) → List ℕ → Option A
find_word [] letters = None
find_word (entry ∷ entries) letters = if same_name entry.0 letters then Some entry.1 else find_word entries letters

-- the reserved word that these letters spell
unfoldable pub reserved_of : List ℕ → Option Reserved
reserved_of = find_word (map (λ e. (e.0.now, e.1)) RESERVED)
