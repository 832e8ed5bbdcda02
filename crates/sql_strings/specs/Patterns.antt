-- LIKE: patterns, and the texts that they match.
use Rattle.std.specs.Prelude.{ℕ, ◌==◌, Bool, true, false, ◌||◌, if◌then◌else◌, List, [], ◌∷◌, ◌++◌, Option, None, Some, Ok, Err}
use Rattle.std.specs.Str.{IsUtf8, chars}
use Rattle.sql_strings.specs.declared.pattern.PatternPart.{PatternPart}
use Rattle.sql_strings.specs.declared.pattern.PatternPart.TheVariants as code
use Rattle.sql_types.specs.declared.fault.FaultKind.TheVariants.{Pattern}
use Rattle.sql_types.specs.Outcome.{Outcome}

-- what a part of a pattern stands for
pub data Part : Type 0 where
  -- `%`, any text
  any_text : Part
  -- `_`, any one symbol
  any_symbol : Part
  -- this symbol as it is
  this : ℕ → Part

-- a part as the code has it
abbrev pub said : PatternPart → Part
said code.AnyText = any_text
said code.AnySymbol = any_symbol
said (code.This c) = this c

abbrev pub with_part : Part → Option (List Part) → Option (List Part)
with_part p None = None
with_part p (Some ps) = Some (p ∷ ps)

-- the part that a symbol is, when no backslash stands before it
abbrev pub part_of : ℕ → Part
part_of c = if c == 37 then any_text else if c == 95 then any_symbol else this c

-- The parts of a pattern: a backslash makes the next symbol stand for itself. A last backslash has nothing to escape, and the
-- pattern has no parts. `escaped` says that a backslash stands before.
abbrev pub parts_behind : Bool → List ℕ → Option (List Part)
parts_behind true [] = None
parts_behind false [] = Some []
parts_behind true (c ∷ cs) = with_part (this c) (parts_behind false cs)
parts_behind false (c ∷ cs) = if c == 92 then parts_behind true cs else with_part (part_of c) (parts_behind false cs)

abbrev pub parts : List ℕ → Option (List Part)
parts = parts_behind false

-- the texts that match: one case for each part
pub data Matches : List Part → List ℕ → Type 0 where
  match_end : Matches [] []
  match_text : {ps : List Part} {v : List ℕ} (u : List ℕ) → Matches ps v → Matches (any_text ∷ ps) (u ++ v)
  match_symbol : {ps : List Part} {x : ℕ} {xs : List ℕ} → Matches ps xs → Matches (any_symbol ∷ ps) (x ∷ xs)
  match_this : {ps : List Part} {x : ℕ} {xs : List ℕ} → Matches ps xs → Matches (this x ∷ ps) (x ∷ xs)

-- ---- the same as a test

-- what is behind some front of the text passes
abbrev pub some_rest : (List ℕ → Bool) → List ℕ → Bool
some_rest passes [] = passes []
some_rest passes (x ∷ xs) = passes (x ∷ xs) || some_rest passes xs

-- the first symbol passes, and the rest too
abbrev pub first_passes : (ℕ → Bool) → (List ℕ → Bool) → List ℕ → Bool
first_passes is passes [] = false
first_passes is passes (x ∷ xs) = if is x then passes xs else false

-- a part that is no `%` takes this symbol
abbrev pub takes : Part → ℕ → Bool
takes any_text x = true
takes any_symbol x = true
takes (this c) x = x == c

abbrev pub is_end : List ℕ → Bool
is_end [] = true
is_end (x ∷ xs) = false

abbrev pub matches : List Part → List ℕ → Bool
matches [] = is_end
matches (any_text ∷ ps) = some_rest (matches ps)
matches (any_symbol ∷ ps) = first_passes (λ x. true) (matches ps)
matches (this c ∷ ps) = first_passes (λ x. x == c) (matches ps)

-- the same by the parts of a pattern; a pattern that has no parts matches no text
abbrev pub passes : Option (List Part) → List ℕ → Bool
passes None text = false
passes (Some ps) text = matches ps text

-- a text as its symbols: its bytes, or its characters
abbrev pub symbols : Bool → List ℕ → List ℕ
symbols true bytes = bytes
symbols false bytes = chars bytes

-- the bytes are such a text
abbrev pub IsText : Bool → List ℕ → Type 0
IsText true bytes = Unit {0}
IsText false bytes = IsUtf8 bytes

-- the answer of LIKE: a pattern whose last backslash has nothing to escape is a fault, whatever the text
abbrev pub like_by : Option (List Part) → List ℕ → Outcome Bool
like_by None text = Err Pattern
like_by (Some ps) text = Ok (matches ps text)

abbrev pub like : List ℕ → List ℕ → Outcome Bool
like text pattern = like_by (parts pattern) text
