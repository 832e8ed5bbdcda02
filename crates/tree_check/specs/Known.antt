-- Numbers that are known after others were added.
use Rattle.std.specs.Prelude.{◌≡◌, ℕ, ◌||◌, List}
use Rattle.resolved_ast.specs.Columns.{among}

-- each number is known that was known before or is among those added
abbrev pub knows_all : List ℕ → List ℕ → List ℕ → Type 0
knows_all after added before = (n : ℕ) → among n after ≡ (among n before || among n added)
