-- A page on which the lines of a tree are written: its text, and the spaces that stand before the next line.
use Rattle.std.specs.Prelude.{ℕ, List, [], ◌++◌, codes, take}

pub record Page : Type 0 where
  pub text : List ℕ
  pub margin : List ℕ

abbrev pub blank : Page
blank = record { text = []; margin = [] }

-- the page with more text
unfoldable pub written : Page → List ℕ → Page
written page text = record { text = page.text ++ text; margin = page.margin }

-- the page two spaces further in
unfoldable pub deeper : Page → Page
deeper page = record { text = page.text; margin = page.margin ++ codes "  " }

-- the page with this many spaces
unfoldable pub narrowed : Page → ℕ → Page
narrowed page depth = record { text = page.text; margin = take depth page.margin }

-- the page with a part that stands two spaces further in
unfoldable pub below : Page → (List ℕ → List ℕ) → Page
below page part = written page (part (page.margin ++ codes "  "))
