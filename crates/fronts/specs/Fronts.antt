-- Fronts of a text that are words of a language, or begin one.
use Rattle.std.specs.Prelude.{◌≡◌, ℕ, ◌+◌, ◌<◌, ◌≤◌, List, ◌++◌, length, take, Option, Some, None}

-- a language over symbols C says which lists of them are its words, and what a word is read as: an A
abbrev pub Language : Type 0 → Type 0 → Type 1
Language C A = A → List C → Type 0

-- no word is read in two ways
abbrev pub OneReading : {C A : Type 0} → Language C A → Type 0
OneReading {C} {A} L = (a b : A) (u : List C) → L a u → L b u → a ≡ b

-- a word of the language begins so: it is this list and some more, or nothing more
abbrev pub Begins : {C A : Type 0} → Language C A → List C → Type 0
Begins {C} {A} L u = (v : List C) × (a : A) × L a (u ++ v)

-- The longest front of the text that begins a word has this length, and it is a word with this reading. No word begins
-- with it and the symbol behind it, where one stands there.
pub record Longest {C A : Type 0} (L : Language C A) (text : List C) (a : A) (n : ℕ) : Type 0 where
  pub within : n ≤ length text
  pub spells : L a (take n text)
  pub ended : n < length text → Begins L (take (n + 1) text) → ⊥

-- The longest front of the text that begins a word has this length, and it is no word.
pub record Unfinished {C A : Type 0} (L : Language C A) (text : List C) (n : ℕ) : Type 0 where
  pub within : n ≤ length text
  pub begun : Begins L (take n text)
  pub none : (a : A) → L a (take n text) → ⊥
  pub ended : n < length text → Begins L (take (n + 1) text) → ⊥

-- the longest front of the text that begins a word has this length, and is read so, or is no word
abbrev pub Front : {C A : Type 0} → Language C A → List C → ℕ → Option A → Type 0
Front L text n None = Unfinished L text n
Front L text n (Some a) = Longest L text a n
