-- Where each operand of a form has an outcome, so has the form.
use Rattle.std.proofs.Common.{Bool, true, false, List, [], ◌∷◌, map, inl, inr, Ok, Err, refl, sym, subst}
use Rattle.sql_types.specs.declared.value.Value.{Value}
use Rattle.sql_types.specs.declared.value.Value.TheVariants as value
use Rattle.sql_types.specs.Logic.{Decided, all_valued, one_of_faults, three_valued}
use Rattle.sql_types.specs.Outcome.{Outcome, Meaning, gives, Gather, all_give, one_faults, Both}
use Rattle.sql_types.proofs.OutcomeLaws.{HasOutcome, then_some, both_some, gather_some}
use Rattle.sql_types.specs.Logic.{of_truth}
use Rattle.sql_types.specs.Same.{equal}
use Rattle.sql_types.specs.Joined.{Row}
use Rattle.sql_forms.specs.Rows.{pair_tests}
use Rattle.sql_forms.proofs.FormLaws.{compared, map_twice}
use Rattle.sql_forms.specs.Conditions.{pick, is_true, is_null_value, if_means, case_means, first_not_null, Caught, no_fault, caught, Tried, a_value, a_fault, caught_by, tried, list_means}

pub given : {A : Type 0} (x : A) → HasOutcome (gives x)
given x = (Ok x, refl)

pub pick_some : (b : Bool) (m n : Meaning Value) → HasOutcome m → HasOutcome n → HasOutcome (pick b m n)
pick_some true m n first second = first
pick_some false m n first second = second

pub add_outcome : {A : Type 0} (m : Meaning A) (ms : List (Meaning A)) → HasOutcome m → (o : Outcome (List A)) → Gather ms o → HasOutcome (Gather (m ∷ ms))
add_outcome m ms (Err fault, has) o gathered = (Err fault, one_faults (inl has))
add_outcome m ms (Ok x, has) o (all_give each) = (Ok (x ∷ _), all_give (has, each))
add_outcome m ms (Ok x, has) o (one_faults some) = (Err _, one_faults (inr some))

module _ {A X Z : Type 0} (f : X → Z) (P : Z → Meaning A) (some : (x : X) → HasOutcome (P (f x))) where
  pub gather_has : (xs : List X) → HasOutcome (Gather (map P (map f xs)))
  gather_has [] = (Ok [], all_give tt)
  gather_has (x ∷ xs) = let rest = gather_has xs in add_outcome (P (f x)) (map P (map f xs)) (some x) rest.0 rest.1

decided_by : (b : Bool) (ms : List (Meaning Value)) (o : Outcome (List Value)) → Gather ms o → HasOutcome (Decided b ms)
decided_by b ms o (all_give each) = (Ok (three_valued b _), all_valued _ each)
decided_by b ms o (one_faults some) = (Err _, one_of_faults some)

caught_some : (m n : Meaning Value) → HasOutcome m → HasOutcome n → HasOutcome (Caught m n)
caught_some m n (Ok x, has) second = (Ok x, no_fault has)
caught_some m n (Err fault, has) second = (second.0, caught has second.1)

tried_some : (m : Meaning Value) → HasOutcome m → HasOutcome (Tried m)
tried_some m (Ok x, has) = (Ok (value.Bool false), a_value has)
tried_some m (Err fault, has) = (Ok (value.Bool true), a_fault has)

module _ {X Z : Type 0} (f : X → Z) (P : Z → Meaning Value) (some : (x : X) → HasOutcome (P (f x))) where
  pub decided_has : (b : Bool) (xs : List X) → HasOutcome (Decided b (map P (map f xs)))
  decided_has b xs = let all = gather_has f P some xs in decided_by b (map P (map f xs)) all.0 all.1

  pub if_has : (xs : List X) → HasOutcome (if_means (map P (map f xs)))
  if_has [] = given value.Null
  if_has (x ∷ []) = given value.Null
  if_has (x ∷ y ∷ []) = given value.Null
  if_has (x ∷ y ∷ z ∷ xs) = then_some (P (f x)) (λ b. pick (is_true b) (P (f y)) (P (f z))) (some x) (λ b. pick_some (is_true b) _ _ (some y) (some z))

  pub case_has : (xs : List X) → HasOutcome (case_means (map P (map f xs)))
  case_has [] = given value.Null
  case_has (x ∷ []) = some x
  case_has (x ∷ y ∷ xs) =
      then_some (P (f x)) (λ b. pick (is_true b) (P (f y)) (case_means (map P (map f xs)))) (some x) (λ b. pick_some (is_true b) _ _ (some y) (case_has xs))

  pub first_has : (xs : List X) → HasOutcome (first_not_null (map P (map f xs)))
  first_has [] = given value.Null
  first_has (x ∷ xs) =
      then_some (P (f x)) (λ v. pick (is_null_value v) (first_not_null (map P (map f xs))) (gives v)) (some x) (λ v. pick_some (is_null_value v) _ _ (first_has xs) (given v))

  pub caught_has : (xs : List X) → HasOutcome (caught_by (map P (map f xs)))
  caught_has [] = given value.Null
  caught_has (x ∷ []) = caught_some (P (f x)) (gives value.Null) (some x) (given value.Null)
  caught_has (x ∷ y ∷ xs) = caught_some (P (f x)) (P (f y)) (some x) (some y)

  pub tried_has : (xs : List X) → HasOutcome (tried (map P (map f xs)))
  tried_has [] = given value.Null
  tried_has (x ∷ xs) = tried_some (P (f x)) (some x)

  -- IN over a list
  compared_has : (v : Value) (xs : List X) → HasOutcome (Decided true (map (compared v) (map P (map f xs))))
  compared_has v xs =
      subst (λ (l : List (Meaning Value)). HasOutcome (Decided true l)) (sym (map_twice P (compared v) (map f xs)))
      (let all = gather_has f (λ z. compared v (P z)) (λ x. then_some (P (f x)) (λ y. gives (of_truth (equal v y))) (some x) (λ y. given (of_truth (equal v y)))) xs in
      decided_by true (map (λ z. compared v (P z)) (map f xs)) all.0 all.1)

  pub list_has : (m : Meaning Value) → HasOutcome m → (xs : List X) → HasOutcome (list_means m (map P (map f xs)))
  list_has m first xs = then_some m (λ v. Decided true (map (compared v) (map P (map f xs)))) first (λ v. compared_has v xs)

-- the tests of pairs
pub pair_tests_has : (test : Row → Row → Meaning Value) → ((left right : Row) → HasOutcome (test left right)) → (lefts : List Row) (rights : List (List Row)) → HasOutcome (pair_tests test lefts rights)
pair_tests_has test some [] rights = given []
pair_tests_has test some (left ∷ lefts) [] = given []
pair_tests_has test some (left ∷ lefts) (right ∷ rights) =
    then_some (Both (Gather (map (test left) right)) (pair_tests test lefts rights)) (λ both. gives (both.0 ∷ both.1))
    (both_some (Gather (map (test left) right)) (pair_tests test lefts rights) (gather_some (test left) (some left) right) (pair_tests_has test some lefts rights))
    (λ both. given (both.0 ∷ both.1))
