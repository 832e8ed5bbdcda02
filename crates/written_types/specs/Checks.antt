-- What typing answers: what is typed, or the first broken rule and its place.
use Rattle.std.specs.Prelude.{ℕ, Bool, true, false, List, [], ◌∷◌, Option, None, Some, Result, Ok, Err}

abbrev pub Checked : Type 0 → Type 0
Checked A = Result A (ℕ × ℕ)

infixl 1 ◌>>=◌
abbrev pub ◌>>=◌ : {A B : Type 0} → Checked A → (A → Checked B) → Checked B
◌>>=◌ (Ok x) next = next x
◌>>=◌ (Err broken) next = Err broken

-- a rule is broken at this place
abbrev pub broken : {A : Type 0} → ℕ → ℕ → Checked A
broken rule place = Err (rule, place)

-- a rule that holds where a test does
abbrev pub unless : Bool → ℕ → ℕ → Checked (Unit {0})
unless true rule place = broken rule place
unless false rule place = Ok tt

-- several things from left to right
abbrev pub in_turn : {A : Type 0} → List (Checked A) → Checked (List A)
in_turn [] = Ok []
in_turn (c ∷ cs) = c >>= (λ x. in_turn cs >>= (λ xs. Ok (x ∷ xs)))

-- a thing that may be missing
abbrev pub if_there : {A B : Type 0} → (A → Checked B) → Option A → Checked (Option B)
if_there check None = Ok None
if_there check (Some x) = check x >>= (λ y. Ok (Some y))
