-- Outcomes, and how the outcomes of several things come together.
use Rattle.std.specs.Prelude.{◌≡◌, ◌⊎◌, List, [], ◌∷◌, Result, Ok, Err}
use Rattle.sql_types.specs.declared.fault.FaultKind.{FaultKind}
use Rattle.sql_types.specs.declared.fault.CallFault.{CallFault}
use Rattle.sql_types.specs.declared.fault.CallFault.TheVariants.{Fault, OutOfMemory}

-- a value or a fault
abbrev pub Outcome : Type 0 → Type 0
Outcome A = Result A FaultKind

-- which outcomes are permitted
abbrev pub Meaning : Type 0 → Type 1
Meaning A = Outcome A → Type 0

-- this value alone
abbrev pub gives : {A : Type 0} → A → Meaning A
gives x o = o ≡ Ok x

-- this outcome alone
abbrev pub just : {A : Type 0} → Outcome A → Meaning A
just p o = o ≡ p

-- no outcome
abbrev pub nothing : {A : Type 0} → Meaning A
nothing o = ⊥

-- an outcome of the first is taken: with a value the next goes on, and a fault is the outcome
infixl 1 ◌>>=◌
pub data ◌>>=◌ {A B : Type 0} (first : Meaning A) (next : A → Meaning B) : Outcome B → Type 0 where
  goes_on : {x : A} {o : Outcome B} → first (Ok x) → next x o → (first >>= next) o
  ends : {fault : FaultKind} → first (Err fault) → (first >>= next) (Err fault)

-- each of the things gives its value
abbrev pub EachGives : {A : Type 0} → List (Meaning A) → List A → Type 0
EachGives [] [] = Unit {0}
EachGives [] (x ∷ xs) = ⊥
EachGives (m ∷ ms) [] = ⊥
EachGives (m ∷ ms) (x ∷ xs) = m (Ok x) × EachGives ms xs

-- some of the things may have this fault
abbrev pub SomeFaults : {A : Type 0} → FaultKind → List (Meaning A) → Type 0
SomeFaults fault [] = ⊥
SomeFaults fault (m ∷ ms) = m (Err fault) ⊎ SomeFaults fault ms

-- One permitted outcome of each of several things: their list where all are values, and any one of the faults else.
-- A fault needs the thing that faults and no outcome of the others. Where each of them has an outcome, as every typed
-- text and every valid tree has, this permits the same as taking one outcome of each first.
pub data Gather {A : Type 0} (ms : List (Meaning A)) : Outcome (List A) → Type 0 where
  all_give : {values : List A} → EachGives ms values → Gather ms (Ok values)
  one_faults : {fault : FaultKind} → SomeFaults fault ms → Gather ms (Err fault)

-- two things that gather
pub data Both {A B : Type 0} (left : Meaning A) (right : Meaning B) : Outcome (A × B) → Type 0 where
  both_give : {x : A} {y : B} → left (Ok x) → right (Ok y) → Both left right (Ok (x, y))
  left_faults : {fault : FaultKind} → left (Err fault) → Both left right (Err fault)
  right_faults : {fault : FaultKind} → right (Err fault) → Both left right (Err fault)

-- each outcome of the one is one of the other
abbrev pub Below : {A : Type 0} → Meaning A → Meaning A → Type 0
Below {A} m n = (o : Outcome A) → m o → n o

-- each outcome of the one has its like among those of the other: values that are related, or the same fault
abbrev pub Related : {A B : Type 0} → (A → B → Type 0) → Outcome A → Outcome B → Type 0
Related R (Ok x) (Ok y) = R x y
Related R (Ok x) (Err fault) = ⊥
Related R (Err fault) (Ok y) = ⊥
Related R (Err fault) (Err other) = fault ≡ other

abbrev pub Tied : {A B : Type 0} → (A → B → Type 0) → Meaning A → Meaning B → Type 0
Tied {A} {B} R m n = (o : Outcome A) → m o → (p : Outcome B) × n p × Related R o p

-- what a call answers is permitted, where it finds memory
abbrev pub Answers : {A : Type 0} → Meaning A → Result A CallFault → Type 0
Answers means (Ok x) = means (Ok x)
Answers means (Err (Fault fault)) = means (Err fault)
Answers means (Err OutOfMemory) = Unit {0}
