-- Numbers of 64 bits have the decimal that is printed; a decimal is digits alone, and tells its number.
use Rattle.std.proofs.Common.{◌≡◌, ℕ, zero, suc, ◌+◌, ◌/◌, ◌%◌, ◌<◌, ◌≤◌, ◌^◌, ◌==◌, Bool, true, false, if◌then◌else◌, List, [], ◌∷◌, ◌++◌, map, codes, decimal, get_or, refl, ap, sym, ◌∙◌, arith}
use Rattle.std.specs.Char.{is_ascii_digit}
use Rattle.std.specs.List.{list_all}
use Rattle.std.specs.Int.Digits.{digits_of, AllBelowBase}
use Rattle.std.proofs.lemmas.Fmt.{decimal_by_steps}
use Rattle.std.proofs.lemmas.Int.Digits.{digits_of_step, same_from_digits_of, all_below_base_digits_of, first_digits_of}
use Rattle.std.proofs.lemmas.Bool.Decides.{nat_tests}
use Rattle.resolved_ast.specs.Numeral.{numeral}

map_last : (xs : List ℕ) (x : ℕ) → map (λ d. 48 + d) (xs ++ x ∷ []) ≡ map (λ d. 48 + d) xs ++ ((48 + x) ∷ [])
map_last [] x = refl
map_last (y ∷ ys) x = ap (λ l. (48 + y) ∷ l) (map_last ys x)

above : (n : ℕ) → 0 < n → (n == 0) ≡ false
above n some = grind (arith, nat_tests)

pub numeral_of : (n : ℕ) → 0 < n → numeral n ≡ map (λ d. 48 + d) (digits_of 10 n)
unfolding numeral
numeral_of n some = rw (above n some) refl

pub one_digit : (n : ℕ) → n < 10 → (48 + n) ∷ [] ≡ numeral n
unfolding numeral
one_digit zero small = refl
one_digit (suc n) small =
    let whole : suc n / 10 ≡ 0 = omega arith in
    let last : suc n % 10 ≡ suc n = omega arith in
    sym (numeral_of (suc n) (omega arith) ∙ ap (map (λ d. 48 + d)) (digits_of_step 10 (suc n) (omega arith) (omega arith) ∙ (λ i. digits_of 10 (whole i) ++ last i ∷ [])))

pub numeral_step : (n : ℕ) → 10 ≤ n → numeral n ≡ numeral (n / 10) ++ ((48 + n % 10) ∷ [])
numeral_step n large =
    numeral_of n (omega arith) ∙ ap (map (λ d. 48 + d)) (digits_of_step 10 n (omega arith) (omega arith)) ∙ map_last (digits_of 10 (n / 10)) (n % 10)
    ∙ ap (λ l. l ++ ((48 + n % 10) ∷ [])) (sym (numeral_of (n / 10) (omega arith)))

-- a number of 64 bits has the decimal that is printed
pub decimal_numeral : (n : ℕ) → n < 2 ^ 64 → decimal n ≡ numeral n
decimal_numeral n small =
    decimal_by_steps (λ n ds. ds ≡ numeral n) one_digit (λ n ds large is. ap (λ l. l ++ ((48 + n % 10) ∷ [])) is ∙ sym (numeral_step n large)) n small

-- ---- a decimal tells its number

digit : (d : ℕ) → d < 10 → is_ascii_digit (48 + d) ≡ true
digit d small = grind (arith, nat_tests)

all_digits : (ds : List ℕ) → AllBelowBase 10 ds → list_all is_ascii_digit (map (λ d. 48 + d) ds) ≡ true
all_digits [] below = refl
all_digits (d ∷ ds) below = rw (digit d below.0) (all_digits ds below.1)

by_sort : (n : ℕ) (b : Bool) → (n == 0) ≡ b → list_all is_ascii_digit (if b then codes "0" else map (λ d. 48 + d) (digits_of 10 n)) ≡ true
by_sort n true is = refl
by_sort n false is = all_digits (digits_of 10 n) (all_below_base_digits_of 10 n (omega arith))

pub numeral_digits : (n : ℕ) → list_all is_ascii_digit (numeral n) ≡ true
unfolding numeral
numeral_digits n = by_sort n (n == 0) refl

unmapped : (xs ys : List ℕ) → map (λ d. 48 + d) xs ≡ map (λ d. 48 + d) ys → xs ≡ ys
unmapped [] [] e = refl
unmapped [] (y ∷ ys) e = absurd cc
unmapped (x ∷ xs) [] e = absurd cc
unmapped (x ∷ xs) (y ∷ ys) e =
    let first : 48 + x ≡ 48 + y = cc in
    let behind : map (λ d. 48 + d) xs ≡ map (λ d. 48 + d) ys = cc in
    let same : x ≡ y = omega (arith, first) in
    let rest = unmapped xs ys behind in
    λ i. same i ∷ rest i

zero_alone : (n : ℕ) → 0 < n → codes "0" ≡ map (λ d. 48 + d) (digits_of 10 n) → ⊥
zero_alone n some e =
    omega (arith, first_digits_of 10 n (omega arith) some, ap (λ l. get_or l 0 0) (unmapped (0 ∷ []) (digits_of 10 n) e))

pub numeral_injective : (n m : ℕ) → numeral n ≡ numeral m → n ≡ m
unfolding numeral
numeral_injective zero zero e = refl
numeral_injective zero (suc m) e = absurd (zero_alone (suc m) (omega arith) (e ∙ numeral_of (suc m) (omega arith)))
numeral_injective (suc n) zero e = absurd (zero_alone (suc n) (omega arith) (sym e ∙ numeral_of (suc n) (omega arith)))
numeral_injective (suc n) (suc m) e =
    same_from_digits_of 10 (suc n) (suc m) (omega arith)
    (unmapped (digits_of 10 (suc n)) (digits_of 10 (suc m)) (sym (numeral_of (suc n) (omega arith)) ∙ e ∙ numeral_of (suc m) (omega arith)))
