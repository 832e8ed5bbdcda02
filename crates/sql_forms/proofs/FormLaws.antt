-- Where each operand of the one form permits only outcomes of the other's, so does the form.
use Rattle.std.proofs.Common.{Bool, true, false, List, [], ◌∷◌, map, inl, inr, ◌≡◌, refl, sym, ap, subst}
use Rattle.sql_types.specs.declared.fault.FaultKind.{FaultKind}
use Rattle.sql_types.specs.declared.value.Value.{Value}
use Rattle.sql_types.specs.Joined.{Row}
use Rattle.sql_types.specs.Logic.{SomeIs, Decided, all_valued, one_decides, one_of_faults}
use Rattle.sql_types.specs.Outcome.{Meaning, gives, ◌>>=◌, EachGives, SomeFaults, Gather, all_give, one_faults, Below}
use Rattle.sql_types.proofs.OutcomeLaws.{then_below, both_below, gather_below}
use Rattle.sql_forms.specs.Conditions.{pick, is_true, is_null_value, if_means, case_means, first_not_null, Caught, no_fault, caught, a_value, a_fault, caught_by, tried, list_means}
use Rattle.sql_forms.specs.Rows.{pair_tests}
use Rattle.sql_types.specs.Logic.{of_truth}
use Rattle.sql_types.specs.Same.{equal}

-- one meaning is below itself
pub same : {A : Type 0} (m : Meaning A) → Below m m
same m o h = h

pub pick_below : (b : Bool) (m n k l : Meaning Value) → Below m k → Below n l → Below (pick b m n) (pick b k l)
pick_below true m n k l first second o h = first o h
pick_below false m n k l first second o h = second o h

-- an element of IN, compared with the search value
abbrev pub compared : Value → Meaning Value → Meaning Value
compared v m = m >>= (λ y. gives (of_truth (equal v y)))

pub map_twice : {Y : Type 0} {C : Type 1} (h : Y → C) (k : C → C) (ys : List Y) → map k (map h ys) ≡ map (λ y. k (h y)) ys
map_twice h k [] = refl
map_twice h k (y ∷ ys) = ap (λ r. k (h y) ∷ r) (map_twice h k ys)

-- ---- several at once; the operands stand under names

module _ {A X Z W : Type 0} (f : X → Z) (g : X → W) (P : Z → Meaning A) (Q : W → Meaning A) (le : (x : X) → Below (P (f x)) (Q (g x))) where
  pub gives_below : (xs : List X) (values : List A) → EachGives (map P (map f xs)) values → EachGives (map Q (map g xs)) values
  gives_below [] [] each = each
  gives_below [] (v ∷ vs) each = each
  gives_below (x ∷ xs) [] each = each
  gives_below (x ∷ xs) (v ∷ vs) each = (le x _ each.0, gives_below xs vs each.1)

  pub faults_below : (fault : FaultKind) (xs : List X) → SomeFaults fault (map P (map f xs)) → SomeFaults fault (map Q (map g xs))
  faults_below fault [] some = some
  faults_below fault (x ∷ xs) (inl here) = inl (le x _ here)
  faults_below fault (x ∷ xs) (inr later) = inr (faults_below fault xs later)

  pub gather_le : (xs : List X) → Below (Gather (map P (map f xs))) (Gather (map Q (map g xs)))
  gather_le xs o (all_give each) = all_give (gives_below xs _ each)
  gather_le xs o (one_faults some) = one_faults (faults_below _ xs some)

module _ {X Z W : Type 0} (f : X → Z) (g : X → W) (P : Z → Meaning Value) (Q : W → Meaning Value) (le : (x : X) → Below (P (f x)) (Q (g x))) where
  is_below : (b : Bool) (xs : List X) → SomeIs b (map P (map f xs)) → SomeIs b (map Q (map g xs))
  is_below b [] some = some
  is_below b (x ∷ xs) (inl here) = inl (le x _ here)
  is_below b (x ∷ xs) (inr later) = inr (is_below b xs later)

  pub decided_le : (b : Bool) (xs : List X) → Below (Decided b (map P (map f xs))) (Decided b (map Q (map g xs)))
  decided_le b xs o (all_valued values each) = all_valued values (gives_below f g P Q le xs values each)
  decided_le b xs o (one_decides some) = one_decides (is_below b xs some)
  decided_le b xs o (one_of_faults some) = one_of_faults (faults_below f g P Q le _ xs some)

  pub if_le : (xs : List X) → Below (if_means (map P (map f xs))) (if_means (map Q (map g xs)))
  if_le [] = same _
  if_le (x ∷ []) = same _
  if_le (x ∷ y ∷ []) = same _
  if_le (x ∷ y ∷ z ∷ xs) = then_below (le x) (λ b. pick_below (is_true b) _ _ _ _ (le y) (le z))

  pub case_le : (xs : List X) → Below (case_means (map P (map f xs))) (case_means (map Q (map g xs)))
  case_le [] = same _
  case_le (x ∷ []) = le x
  case_le (x ∷ y ∷ xs) = then_below (le x) (λ b. pick_below (is_true b) _ _ _ _ (le y) (case_le xs))

  pub first_le : (xs : List X) → Below (first_not_null (map P (map f xs))) (first_not_null (map Q (map g xs)))
  first_le [] = same _
  first_le (x ∷ xs) = then_below (le x) (λ v. pick_below (is_null_value v) _ _ _ _ (first_le xs) (same _))

  caught_le : (m n k l : Meaning Value) → Below m k → Below n l → Below (Caught m n) (Caught k l)
  caught_le m n k l first second o (no_fault given) = no_fault (first _ given)
  caught_le m n k l first second o (caught fault given) = caught (first _ fault) (second _ given)

  pub caught_by_le : (xs : List X) → Below (caught_by (map P (map f xs))) (caught_by (map Q (map g xs)))
  caught_by_le [] = same _
  caught_by_le (x ∷ []) = caught_le _ _ _ _ (le x) (same _)
  caught_by_le (x ∷ y ∷ xs) = caught_le _ _ _ _ (le x) (le y)

  pub tried_le : (xs : List X) → Below (tried (map P (map f xs))) (tried (map Q (map g xs)))
  tried_le [] o h = h
  tried_le (x ∷ xs) o (a_value given) = a_value (le x _ given)
  tried_le (x ∷ xs) o (a_fault fault) = a_fault (le x _ fault)

-- IN over a list: the search value once, and then each element
module _ {X Z W : Type 0} (f : X → Z) (g : X → W) (P : Z → Meaning Value) (Q : W → Meaning Value) (le : (x : X) → Below (P (f x)) (Q (g x))) where
  on_each : (v : Value) (xs : List X) → Below (Decided true (map (compared v) (map P (map f xs)))) (Decided true (map (compared v) (map Q (map g xs))))
  on_each v xs o h =
      subst (λ (l : List (Meaning Value)). Decided true l o) (sym (map_twice Q (compared v) (map g xs)))
      (decided_le f g (λ z. compared v (P z)) (λ w. compared v (Q w)) (λ x. then_below (le x) (λ y. same (gives (of_truth (equal v y))))) true xs o
      (subst (λ (l : List (Meaning Value)). Decided true l o) (map_twice P (compared v) (map f xs)) h))

  pub list_le : (m k : Meaning Value) → Below m k → (xs : List X) → Below (list_means m (map P (map f xs))) (list_means k (map Q (map g xs)))
  list_le m k first xs = then_below first (λ v. on_each v xs)

-- the tests of pairs
pub pair_tests_le : (test other : Row → Row → Meaning Value) → ((left right : Row) → Below (test left right) (other left right)) → (lefts : List Row) (rights : List (List Row)) →
    Below (pair_tests test lefts rights) (pair_tests other lefts rights)
pair_tests_le test other le [] rights = same _
pair_tests_le test other le (left ∷ lefts) [] = same _
pair_tests_le test other le (left ∷ lefts) (right ∷ rights) =
    then_below (both_below (gather_below (test left) (other left) (le left) right) (pair_tests_le test other le lefts rights)) (λ both. same _)
