-- Ways to join readers, beside those of any symbols: repetitions that an item may end, and what begins at a place.
use Rattle.std.specs.Prelude.{ℕ, zero, suc, Bool, if◌then◌else◌, List, [], ◌∷◌, ◌++◌, Option, Some, None}
use Rattle.fronts.specs.Readers.{taken, deep, Reader, and_then, pure, exhausted, next, comes}
use Rattle.sql_ast.specs.declared.token.Token.{Token}

abbrev pub Parser : Type 0 → Type 0
Parser A = Reader Token A

-- what a repetition has found, and what has ended it, if not the next token
abbrev pub Ended : Type 0 → Type 0 → Type 0
Ended A E = List A × Option E

-- Items while a symbol comes next that fits, behind those that were found; at most so many turns. An item adds what it
-- finds, and may end the repetition.
unfoldable pub until : {C A E : Type 0} → (C → Bool) → Reader C (Ended A E) → ℕ → List A → Reader C (Ended A E)
until fits item zero found = λ ts. if comes fits ts then deep else taken (found, None) ts
until fits item (suc n) found = λ ts. if comes fits ts
    then and_then (item ts) (λ x. elim x.1 [ None ↦ until fits item n (found ++ x.0) | Some e ↦ pure (found ++ x.0, Some e) ])
    else taken (found, None) ts

-- items as long as each says what the next begins with, behind those that were found
unfoldable pub following : {C A E : Type 0} → (E → Reader C (A × Option E)) → ℕ → List A → Option E → Reader C (List A)
following item n found None = pure found
following item zero found (Some e) = exhausted
following item (suc n) found (Some e) = λ ts. and_then (item e ts) (λ x. following item n (found ++ x.0 ∷ []) x.1)

-- the place where the next token begins
abbrev pub place_of : Option Token → ℕ
place_of None = 0
place_of (Some t) = t.start

-- a reader that knows the place where it begins
abbrev pub starting : {A : Type 0} → (ℕ → Parser A) → Parser A
starting f = λ ts. f (place_of (next ts)) ts
