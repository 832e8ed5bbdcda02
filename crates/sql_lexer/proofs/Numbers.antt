-- The loop that reads digits.
use Rattle.std.proofs.Common.{◌≡◌, ℕ, ◌+◌, ◌*◌, ◌^◌, ◌<◌, ◌≤◌, Bool, true, false, cond, ◌&&◌, List, [], ◌∷◌, length, drop, get_or, Some, None, refl, sym, ◌∙◌, ap, subst, add-one, drop-cons, arith}
use Rattle.std.proofs.lemmas.List.{drop_all}
use Rattle.std.proofs.lemmas.Bool.Decides.{nat_tests}
use Rattle.std.specs.Prelude.{nat_lt, ◌==◌, fold}
use Rattle.std.specs.List.{list_all}
use Rattle.std.specs.Char.{digit_value, is_digit}
use Rattle.sql_ast.specs.Values.{number, number_of, are_digits}

abbrev step : ℕ → ℕ → ℕ → ℕ
step base n d = n * base + digit_value d

abbrev test : ℕ → ℕ → Bool
test base d = is_digit d base

-- what the digits from a place on make of the number before them
pub record Reading (base : ℕ) (digits : List ℕ) (at n : ℕ) : Type 0 where
  pub tests : list_all (test base) digits ≡ list_all (test base) (drop at digits)
  pub value : fold (step base) 0 digits ≡ fold (step base) n (drop at digits)
  pub fits : n < 2 ^ 64

split_here : (digits : List ℕ) (at : ℕ) → at < length digits → drop at digits ≡ get_or digits at 0 ∷ drop (at + 1) digits
split_here digits at lt = rw (add-one, drop-cons digits at 0) refl

le_times : (n base : ℕ) → 0 < base → n ≤ n * base
le_times n base h = grind arith

-- digits behind a number make it no smaller
no_smaller : (base n : ℕ) (digits : List ℕ) → 0 < base → n ≤ fold (step base) n digits
no_smaller base n [] h = omega arith
no_smaller base n (d ∷ digits) h = let k = no_smaller base (step base n d) digits h in let m = le_times n base h in omega arith

chosen : (b : Bool) (base : ℕ) (digits : List ℕ) → (are_digits base digits && nat_lt (number_of base digits) (2 ^ 64)) ≡ b → number base digits ≡ cond b (Some (number_of base digits)) None
chosen b base digits e = ap (λ b. cond b (Some (number_of base digits)) None) e

module _ (base : ℕ) (digits : List ℕ) (at n : ℕ) (r : Reading base digits at n) where
  tests_here : at < length digits → list_all (test base) digits ≡ (test base (get_or digits at 0) && list_all (test base) (drop (at + 1) digits))
  tests_here lt = r.tests ∙ ap (list_all (test base)) (split_here digits at lt)

  value_here : at < length digits → number_of base digits ≡ fold (step base) (step base n (get_or digits at 0)) (drop (at + 1) digits)
  value_here lt = r.value ∙ ap (fold (step base) n) (split_here digits at lt)

  pub goes_on : at < length digits → digit_value (get_or digits at 0) < base → step base n (get_or digits at 0) < 2 ^ 64 → Reading base digits (at + 1) (step base n (get_or digits at 0))
  goes_on lt h fits = let f : test base (get_or digits at 0) ≡ true = grind (arith, nat_tests) in record {
    tests = tests_here lt ∙ ap (λ b. b && list_all (test base) (drop (at + 1) digits)) f;
    value = value_here lt;
    fits = fits;
  }

  pub no_digit : at < length digits → base ≤ digit_value (get_or digits at 0) → None ≡ number base digits
  no_digit lt h = let e = tests_here lt in let f : test base (get_or digits at 0) ≡ false = grind (arith, nat_tests) in sym (chosen false base digits (grind (arith, nat_tests)))

  pub too_great : 0 < base → at < length digits → 2 ^ 64 ≤ step base n (get_or digits at 0) → None ≡ number base digits
  too_great pos lt h =
      let e = value_here lt in
      let k = no_smaller base (step base n (get_or digits at 0)) (drop (at + 1) digits) pos in
      let f : nat_lt (number_of base digits) (2 ^ 64) ≡ false = grind (arith, nat_tests) in
      sym (chosen false base digits (grind (arith, nat_tests)))

  pub ended : length digits ≤ at → 0 < length digits → Some n ≡ number base digits
  ended le some =
      let lt = r.fits in
      let e : list_all (test base) digits ≡ true = r.tests ∙ ap (list_all (test base)) (drop_all at digits le) in
      let f : number_of base digits ≡ n = r.value ∙ ap (fold (step base) n) (drop_all at digits le) in
      let g : nat_lt 0 (length digits) ≡ true = grind (arith, nat_tests) in
      let h : nat_lt (number_of base digits) (2 ^ 64) ≡ true = grind (arith, nat_tests) in
      sym (chosen true base digits (cc) ∙ ap Some f)

none_fits : (n : ℕ) → cond (nat_lt n (2 ^ 64)) (Some n) None ≡ None → 2 ^ 64 ≤ n
none_fits n e = grind (arith, nat_tests)

some_fits : (n m : ℕ) → cond (nat_lt n (2 ^ 64)) (Some n) None ≡ Some m → (n < 2 ^ 64) × (m ≡ n)
some_fits n m e = (grind (arith, nat_tests), grind (arith, nat_tests))

-- the number with one digit more
module _ (base : ℕ) (digits : List ℕ) (at n d : ℕ) (r : Reading base digits at n) (lt : at < length digits) (is : d ≡ digit_value (get_or digits at 0)) where
  pub stops : 0 < base → cond (nat_lt (n * base + d) (2 ^ 64)) (Some (n * base + d)) None ≡ None → None ≡ number base digits
  stops pos e = let k = none_fits (n * base + d) e in too_great base digits at n r pos lt (subst (λ x. 2 ^ 64 ≤ n * base + x) is k)

  pub continues : d < base → (more : ℕ) → cond (nat_lt (n * base + d) (2 ^ 64)) (Some (n * base + d)) None ≡ Some more → Reading base digits (at + 1) more
  continues h more e =
      let k = some_fits (n * base + d) more e in
      subst (Reading base digits (at + 1)) (sym (k.1 ∙ ap (λ x. n * base + x) is)) (goes_on base digits at n r lt (subst (λ x. x < base) is h) (subst (λ x. n * base + x < 2 ^ 64) is k.0))

pub some_digits : (digits : List ℕ) → (length digits == 0) ≡ false → 0 < length digits
some_digits digits e = grind (arith, nat_tests)
