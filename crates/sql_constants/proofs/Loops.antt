-- Repetitions beside loops.
use Rattle.std.proofs.Common.{◌≡◌, ℕ, ◌+◌, Bool, true, List, [], ◌∷◌, ◌++◌, length, drop, get_or, ◌<◌, refl, ◌∙◌, ap, subst, arith}
use Rattle.std.specs.Prelude.{Ok, Err}
use Rattle.fronts.specs.Readers.{Outcome, taken, stuck, and_then, comes, Going}
use Rattle.fronts.proofs.Places.{go_wrong, cell}
use Rattle.sql_types.specs.declared.sql_type.Named.{Named}
use Rattle.sql_types.specs.declared.sql_type.SqlType.{SqlType}
use Rattle.sql_types.specs.declared.value.Value.{Value}
use Rattle.sql_ast.specs.declared.token.Token.{Token}
use Rattle.sql_constants.specs.declared.cursor.Miss.{Miss}
use Rattle.sql_constants.specs.declared.cursor.Miss.TheVariants.{NoConstant, OutOfMemory}
use Rattle.sql_constants.specs.Readers.{Parser, comma_behind, more_fields, in_brackets, structure, constant_at, fields_at}
use Rattle.sql_constants.specs.Reads.{from, Misses, ReadsComma}

-- an outcome that is stuck wherever another is
pub missed_as : {A B : Type 0} (o : Outcome Token A) (p : Outcome Token B) (e : Miss) → ((rest : List Token) → o ≡ stuck rest → p ≡ stuck rest) → Misses o e → Misses p e
missed_as o p NoConstant f h = record { rest = h.rest; is = f h.rest h.is }
missed_as o p OutOfMemory f h = tt

-- an item of a repetition is missed
pub item_missed : {A : Type 0} (tokens : List Token) (fits : Token → Bool) (item : Parser A) (whole : Outcome Token (List A)) (found : List A) (at : ℕ) → Going tokens fits item whole found at
    → comes fits (from tokens at) ≡ true → (e : Miss) → Misses (item (from tokens at)) e → Misses whole e
item_missed tokens fits item whole found at g h e w = missed_as (item (from tokens at)) whole e (λ rest is. go_wrong tokens fits item whole found at g h rest is) w

-- ---- fields

-- the fields from a place on
pub fields_from : (fields slice : List (Named SqlType)) (i : ℕ) (field : Named SqlType) → slice ≡ fields → i < length slice → field ≡ get_or slice i field → drop i fields ≡ field ∷ drop (i + 1) fields
fields_from fields slice i field same lt is = subst (λ (fs : List (Named SqlType)). drop i fs ≡ field ∷ drop (i + 1) fs) same (cell i slice field field lt is)

module _ (turns : ℕ) (field : Named SqlType) (fields : List (Named SqlType)) (left : List (Named SqlType)) (is : left ≡ field ∷ fields) (found : List Value) (tokens : List Token) (at : ℕ) where
  -- the constant of a field, and those behind it
  abbrev behind : Parser (List Value)
  behind ts = and_then (constant_at turns field.ty ts) (λ x. more_fields (fields_at turns fields) (found ++ x ∷ []))

  step : more_fields (fields_at turns left) found (from tokens at) ≡ comma_behind found behind (from tokens at)
  unfolding more_fields
  step = ap (λ (fs : List (Named SqlType)). more_fields (fields_at turns fs) found (from tokens at)) is

  pub comma_missed : (e : Miss) → ReadsComma tokens found at (Err e) → Misses (more_fields (fields_at turns left) found (from tokens at)) e
  comma_missed e h = missed_as (comma_behind found behind (from tokens at)) (more_fields (fields_at turns left) found (from tokens at)) e (λ rest g. step ∙ g) (h behind)

  module _ (place : ℕ) (comma : ReadsComma tokens found at (Ok place)) where
    pub value_missed : (e : Miss) → Misses (constant_at turns field.ty (from tokens place)) e → Misses (more_fields (fields_at turns left) found (from tokens at)) e
    value_missed e h = missed_as (constant_at turns field.ty (from tokens place)) (more_fields (fields_at turns left) found (from tokens at)) e
        (λ rest g. step ∙ comma behind ∙ ap (λ (o : Outcome Token Value). and_then o (λ x. more_fields (fields_at turns fields) (found ++ x ∷ []))) g) h

    pub field_more : (x : Value) (next : ℕ) → constant_at turns field.ty (from tokens place) ≡ taken x (from tokens next)
        → more_fields (fields_at turns left) found (from tokens at) ≡ more_fields (fields_at turns fields) (found ++ x ∷ []) (from tokens next)
    field_more x next g = step ∙ comma behind ∙ ap (λ (o : Outcome Token Value). and_then o (λ x. more_fields (fields_at turns fields) (found ++ x ∷ []))) g

pub fields_end : (turns : ℕ) (left : List (Named SqlType)) (found : List Value) (ts : List Token) → left ≡ [] → more_fields (fields_at turns left) found ts ≡ taken found ts
unfolding more_fields
fields_end turns left found ts is = ap (λ (fs : List (Named SqlType)). more_fields (fields_at turns fs) found ts) is

-- a STRUCT without fields has no constants, and every other one is read in brackets
pub no_fields : (turns : ℕ) (fields : List (Named SqlType)) (ts : List Token) → length fields ≡ 0 → structure (fields_at turns fields) ts ≡ stuck ts
unfolding structure
no_fields turns [] ts none = refl
no_fields turns (f ∷ fields) ts none = absurd (omega arith)

pub some_fields : (turns : ℕ) (fields : List (Named SqlType)) (ts : List Token) → (length fields ≡ 0 → ⊥) → structure (fields_at turns fields) ts ≡ in_brackets (fields_at turns fields) ts
unfolding structure
some_fields turns [] ts some = absurd (some refl)
some_fields turns (f ∷ fields) ts some = refl
