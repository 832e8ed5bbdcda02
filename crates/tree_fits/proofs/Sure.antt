-- What holds of each value that a meaning permits.
use Rattle.std.proofs.Common.{List, [], ◌∷◌, map, Ok, Err, sym, subst}
use Rattle.std.specs.Prelude.{IfOk}
use Rattle.sql_types.specs.Outcome.{Outcome, Meaning, gives, just, ◌>>=◌, goes_on, ends, EachGives, Gather, all_give, one_faults, Both, both_give, left_faults, right_faults}
use Rattle.sql_types.specs.Parted.{Each}

-- it holds of the value; a fault is any fault
abbrev pub OfOk : {A : Type 0} → (A → Type 0) → Outcome A → Type 0
OfOk P o = IfOk o P

pub record Sure {A : Type 0} (m : Meaning A) (P : A → Type 0) : Type 0 where
  pub every : (o : Outcome A) → m o → OfOk P o

pub sure_by : {A : Type 0} {m : Meaning A} {P : A → Type 0} → ((o : Outcome A) → m o → OfOk P o) → Sure m P
sure_by f = record { every = f }

pub sure_value : {A : Type 0} {m : Meaning A} {P : A → Type 0} → Sure m P → (x : A) → m (Ok x) → P x
sure_value s x given = s.every (Ok x) given

pub sure_just : {A : Type 0} {P : A → Type 0} (o : Outcome A) → OfOk P o → Sure (just o) P
sure_just {A} {P} o holds = sure_by (λ p is. subst (λ q. OfOk P q) (sym is) holds)

pub sure_gives : {A : Type 0} {P : A → Type 0} (x : A) → P x → Sure (gives x) P
sure_gives x holds = sure_just (Ok x) holds

pub sure_map : {A : Type 0} {m : Meaning A} {P Q : A → Type 0} → ((x : A) → P x → Q x) → Sure m P → Sure m Q
sure_map {A} {m} {P} {Q} f s = sure_by (λ o given. along o (s.every o given))
  where
    along : (o : Outcome A) → OfOk P o → OfOk Q o
    along (Ok x) holds = f x holds
    along (Err fault) holds = tt

-- one after another
then_every : {A B : Type 0} (m : Meaning A) (k : A → Meaning B) (P : A → Type 0) (Q : B → Type 0) → Sure m P → ((x : A) → P x → Sure (k x) Q) → (o : Outcome B) → (m >>= k) o → OfOk Q o
then_every m k P Q first next o (goes_on given more) = (next _ (sure_value first _ given)).every _ more
then_every m k P Q first next o (ends fault) = tt

pub sure_then : {A B : Type 0} {m : Meaning A} {k : A → Meaning B} {P : A → Type 0} {Q : B → Type 0} → Sure m P → ((x : A) → P x → Sure (k x) Q) → Sure (m >>= k) Q
sure_then {A} {B} {m} {k} {P} {Q} first next = sure_by (then_every m k P Q first next)

-- where nothing is asked of the first
pub sure_any : {A : Type 0} (m : Meaning A) → Sure m (λ x. Unit {0})
sure_any {A} m = sure_by any
  where
    any : (o : Outcome A) → m o → OfOk (λ x. Unit {0}) o
    any (Ok x) given = tt
    any (Err fault) given = tt

pub sure_behind : {A B : Type 0} {m : Meaning A} {k : A → Meaning B} {Q : B → Type 0} → ((x : A) → Sure (k x) Q) → Sure (m >>= k) Q
sure_behind {A} {B} {m} next = sure_then (sure_any m) (λ x any. next x)

-- ---- several at once

both_every : {A B : Type 0} (m : Meaning A) (n : Meaning B) (P : A → Type 0) (Q : B → Type 0) → Sure m P → Sure n Q → (o : Outcome (A × B)) → Both m n o → OfOk (λ both. P both.0 × Q both.1) o
both_every m n P Q left right o (both_give x y) = (sure_value left _ x, sure_value right _ y)
both_every m n P Q left right o (left_faults x) = tt
both_every m n P Q left right o (right_faults y) = tt

pub sure_both : {A B : Type 0} {m : Meaning A} {n : Meaning B} {P : A → Type 0} {Q : B → Type 0} → Sure m P → Sure n Q → Sure (Both m n) (λ both. P both.0 × Q both.1)
sure_both {A} {B} {m} {n} {P} {Q} left right = sure_by (both_every m n P Q left right)

-- each of the things is sure
abbrev pub EachSure : {A : Type 0} → (A → Type 0) → List (Meaning A) → Type 0
EachSure P [] = Unit {0}
EachSure P (m ∷ ms) = Sure m P × EachSure P ms

module _ {A : Type 0} (P : A → Type 0) where
  each_so : (ms : List (Meaning A)) (values : List A) → EachSure P ms → EachGives ms values → Each P values
  each_so [] [] each given = tt
  each_so [] (v ∷ values) each given = absurd given
  each_so (m ∷ ms) [] each given = absurd given
  each_so (m ∷ ms) (v ∷ values) each given = (sure_value each.0 v given.0, each_so ms values each.1 given.1)

  gather_every : (ms : List (Meaning A)) → EachSure P ms → (o : Outcome (List A)) → Gather ms o → OfOk (Each P) o
  gather_every ms each o (all_give given) = each_so ms _ each given
  gather_every ms each o (one_faults fault) = tt

  pub sure_gather : (ms : List (Meaning A)) → EachSure P ms → Sure (Gather ms) (Each P)
  sure_gather ms each = sure_by (gather_every ms each)

  -- of things that come of others
  pub each_sure : {X : Type 0} (Q : X → Type 0) (f : X → Meaning A) → ((x : X) → Q x → Sure (f x) P) → (xs : List X) → Each Q xs → EachSure P (map f xs)
  each_sure Q f sure [] each = tt
  each_sure Q f sure (x ∷ xs) each = (sure x each.0, each_sure Q f sure xs each.1)
