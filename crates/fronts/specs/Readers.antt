-- Readers: functions that read something from the start of a text and look one symbol ahead. This is a functional form of
-- recursive descent, which the code of a parser equals function by function.
use Rattle.std.specs.Prelude.{◌≡◌, ℕ, zero, suc, ◌-◌, ◌<◌, Bool, false, if◌then◌else◌, List, [], ◌∷◌, ◌++◌, length, take, drop, Option, Some, None}

-- what was read and the symbols behind it; or the symbols from the first on that fits nothing; or the depth ran out
pub data Outcome (C A : Type 0) : Type 0 where
  taken : A → List C → Outcome C A
  stuck : List C → Outcome C A
  deep : Outcome C A

abbrev pub Reader : Type 0 → Type 0 → Type 0
Reader C A = List C → Outcome C A

-- ---- one reader after another

abbrev pub and_then : {C A B : Type 0} → Outcome C A → (A → Reader C B) → Outcome C B
and_then (taken a rest) f = f a rest
and_then (stuck rest) f = stuck rest
and_then deep f = deep

infixl 10 ◌>>=◌
abbrev pub ◌>>=◌ : {C A B : Type 0} → Reader C A → (A → Reader C B) → Reader C B
p >>= f = λ ts. and_then (p ts) f

infixl 10 ◌>>◌
abbrev pub ◌>>◌ : {C A B : Type 0} → Reader C A → Reader C B → Reader C B
p >> q = p >>= (λ _. q)

-- nothing is read
abbrev pub pure : {C A : Type 0} → A → Reader C A
pure a = λ ts. taken a ts

-- whatever comes next fits nothing
abbrev pub refuse : {C A : Type 0} → Reader C A
refuse = λ ts. stuck ts

-- the reader with no depth left
abbrev pub exhausted : {C A : Type 0} → Reader C A
exhausted = λ ts. deep

-- ---- the next symbol

-- the symbol that comes next; none does at the end
abbrev pub next : {C : Type 0} → List C → Option C
next [] = None
next (t ∷ ts) = Some t

-- the test of a symbol, for a place at which none may stand
abbrev pub lets : {C : Type 0} → (C → Bool) → Option C → Bool
lets fits None = false
lets fits (Some t) = fits t

-- a symbol that fits comes next
abbrev pub comes : {C : Type 0} → (C → Bool) → List C → Bool
comes fits ts = lets fits (next ts)

-- what comes next, by a key of it, as its kind
abbrev pub peek : {C K : Type 0} → (Option C → K) → Reader C K
peek key = λ ts. taken (key (next ts)) ts

-- the next symbol, which has to fit
unfoldable pub token : {C : Type 0} → (C → Bool) → Reader C C
token fits [] = stuck []
token fits (t ∷ ts) = if fits t then taken t ts else stuck (t ∷ ts)

-- one reader where a symbol comes next that fits, else another
abbrev pub if_comes : {C A : Type 0} → (C → Bool) → Reader C A → Reader C A → Reader C A
if_comes fits p q = λ ts. if comes fits ts then p ts else q ts

-- ---- repetition, and the end

-- items while a symbol comes next that fits, behind those that were found; at most so many turns
unfoldable pub many : {C A : Type 0} → (C → Bool) → Reader C A → ℕ → List A → Reader C (List A)
many fits item zero found = λ ts. if comes fits ts then deep else taken found ts
many fits item (suc n) found = λ ts. if comes fits ts then and_then (item ts) (λ x. many fits item n (found ++ x ∷ [])) else taken found ts

-- with what was read, the symbols that it was read from
abbrev pub noted : {C A : Type 0} → List C → Outcome C A → Outcome C (List C × A)
noted ts (taken a rest) = taken (take (length ts - length rest) ts, a) rest
noted ts (stuck rest) = stuck rest
noted ts deep = deep

abbrev pub noting : {C A : Type 0} → Reader C A → Reader C (List C × A)
noting p = λ ts. noted ts (p ts)

-- what it comes to where the text has to end behind what was read
abbrev pub to_end : {C A : Type 0} → Outcome C A → Outcome C A
to_end (taken a []) = taken a []
to_end (taken a (t ∷ rest)) = stuck (t ∷ rest)
to_end (stuck rest) = stuck rest
to_end deep = deep

-- ---- beside a loop over the places of a text

-- So far these items were found, and the repetition that comes to this whole outcome goes on from this place, with as many
-- turns as there are symbols left, or more.
pub record Going {C A : Type 0} (ts : List C) (fits : C → Bool) (item : Reader C A) (whole : Outcome C (List A)) (found : List A) (at : ℕ) : Type 0 where
  pub turns : ℕ
  pub room : length ts - at < turns
  pub is : whole ≡ many fits item turns found (drop at ts)
