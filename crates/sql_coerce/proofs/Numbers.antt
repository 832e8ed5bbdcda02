-- Reading a number digit by digit, within 64 bits.
use Rattle.std.proofs.Common.{◌≡◌, ℕ, ◌+◌, ◌*◌, ◌^◌, ◌<◌, ◌≤◌, Bool, true, false, List, [], ◌∷◌, length, get_or, drop, Option, Some, None, if◌then◌else◌, refl, sym, arith, add-one, drop-cons}
use Rattle.std.proofs.Math.Nat.{mul-le-mul_left}
use Rattle.std.proofs.lemmas.List.{drop_all}
use Rattle.std.proofs.lemmas.Grind.{common_steps}
use Rattle.std.specs.Prelude.{nat_lt, option_and_then, option_map, ℤ, pos, neg_ℤ}
use Rattle.std.specs.Char.{is_digit, digit_value}
use Rattle.sql_coerce.specs.Numerals.{with_digit, numeral_after, only_u64, only_int64, only_wide}
use Rattle.sql_types.specs.Fits.{within}

too_large-digit : (radix number digit : ℕ) → 1 ≤ radix → 2 ^ 64 ≤ number → 2 ^ 64 ≤ number * radix + digit
too_large-digit radix number digit one large = omega (arith, mul-le-mul_left number one)

-- one digit more, by whether it is one
abbrev after : ℕ → ℕ → ℕ → List ℕ → Bool → Option ℕ
after radix number c cs b = option_and_then only_u64 (option_and_then (λ next. numeral_after radix next cs) (if b then Some (number * radix + digit_value c) else None))

after-none : (radix number c : ℕ) (cs : List ℕ) (b : Bool) → option_and_then only_u64 (numeral_after radix (number * radix + digit_value c) cs) ≡ None
    → after radix number c cs b ≡ None
after-none radix number c cs true is = is
after-none radix number c cs false is = refl

-- a number that is too large stays so with more digits behind it
pub too_large : (radix number : ℕ) (digits : List ℕ) → 1 ≤ radix → 2 ^ 64 ≤ number
    → option_and_then only_u64 (numeral_after radix number digits) ≡ None
too_large radix number [] one large = grind (arith, common_steps)
too_large radix number (c ∷ cs) one large =
    after-none radix number c cs (is_digit c radix) (too_large radix (number * radix + digit_value c) cs one (too_large-digit radix number (digit_value c) one large))

-- a digit that makes no number of 64 bits
after-end : (radix number c : ℕ) (cs : List ℕ) (b : Bool) → 1 ≤ radix
    → option_and_then only_u64 (if b then Some (number * radix + digit_value c) else None) ≡ None → after radix number c cs b ≡ None
after-end radix number c cs false one is = refl
after-end radix number c cs true one is =
    let large : 2 ^ 64 ≤ number * radix + digit_value c = grind (arith, common_steps) in
    too_large radix (number * radix + digit_value c) cs one large

-- where the digit at a place makes no number of 64 bits, no number comes of the digits from there on
pub digits-end : (radix number : ℕ) (digits : List ℕ) (i : ℕ) → 1 ≤ radix → i < length digits
    → option_and_then only_u64 (with_digit radix number (get_or digits i 0)) ≡ None
    → option_and_then only_u64 (numeral_after radix number (drop i digits)) ≡ None
digits-end radix number digits i one some is =
    let cut : drop i digits ≡ get_or digits i 0 ∷ drop (i + 1) digits = rw (add-one, drop-cons digits i 0) refl in
    rw cut (after-end radix number (get_or digits i 0) (drop (i + 1) digits) (is_digit (get_or digits i 0) radix) one is)

-- past the digits the number stands as it is
pub digits-all : (radix number : ℕ) (digits : List ℕ) (i : ℕ) → length digits ≤ i → number < 2 ^ 64
    → option_and_then only_u64 (numeral_after radix number (drop i digits)) ≡ Some number
digits-all radix number digits i past small =
    let none : drop i digits ≡ [] = drop_all i digits past in
    rw none (grind (arith, common_steps))

-- a number of 64 bits stays what it is
pub only-some : (o : Option ℕ) (next : ℕ) → option_and_then only_u64 o ≡ Some next → (o ≡ Some next) × (next < 2 ^ 64)
only-some None next is = cc
only-some (Some n) next is = only-some-by n next (nat_lt n (2 ^ 64)) refl is
  where
    only-some-by : (n next : ℕ) (b : Bool) → nat_lt n (2 ^ 64) ≡ b → (if b then Some n else None) ≡ Some next → (Some n ≡ Some next) × (next < 2 ^ 64)
    only-some-by n next true test is = (is, grind (arith, common_steps))
    only-some-by n next false test is = cc

-- where it makes one, the digits behind it go on from there
pub digits-go_on : (radix number next : ℕ) (digits : List ℕ) (i : ℕ) → i < length digits
    → with_digit radix number (get_or digits i 0) ≡ Some next
    → numeral_after radix number (drop i digits) ≡ numeral_after radix next (drop (i + 1) digits)
digits-go_on radix number next digits i some is =
    let cut : drop i digits ≡ get_or digits i 0 ∷ drop (i + 1) digits = rw (add-one, drop-cons digits i 0) refl in
    rw (cut, is) refl

-- a number past 64 bits is past every type
above_wide : (n : ℕ) → nat_lt n (2 ^ 64) ≡ false → only_wide (pos n) ≡ None
above_wide n past = grind (arith, common_steps)

below_wide : (n : ℕ) → nat_lt n (2 ^ 64) ≡ false → only_wide (neg_ℤ (pos n)) ≡ None
below_wide n past = grind (arith, common_steps)

within_wide : (n : ℕ) → nat_lt n (2 ^ 64) ≡ true → only_wide (pos n) ≡ Some (pos n)
within_wide n small = grind (arith, common_steps)

minus_wide : (n : ℕ) → nat_lt n (2 ^ 64) ≡ true → only_wide (neg_ℤ (pos n)) ≡ Some (neg_ℤ (pos n))
minus_wide n small = grind (arith, common_steps)

by-test : (f : ℕ → ℤ) (n : ℕ) (b : Bool) → nat_lt n (2 ^ 64) ≡ b → (nat_lt n (2 ^ 64) ≡ false → only_wide (f n) ≡ None) → (nat_lt n (2 ^ 64) ≡ true → only_wide (f n) ≡ Some (f n))
    → option_map f (if b then Some n else None) ≡ only_wide (f n)
by-test f n true test past small = sym (small test)
by-test f n false test past small = sym (past test)

pub whole_positive : (o : Option ℕ) → option_map pos (option_and_then only_u64 o) ≡ option_and_then only_wide (option_map pos o)
whole_positive None = refl
whole_positive (Some n) = by-test pos n (nat_lt n (2 ^ 64)) refl (above_wide n) (within_wide n)

pub whole_negative : (o : Option ℕ) → option_map (λ n. neg_ℤ (pos n)) (option_and_then only_u64 o) ≡ option_and_then only_wide (option_map (λ n. neg_ℤ (pos n)) o)
whole_negative None = refl
whole_negative (Some n) = by-test (λ m. neg_ℤ (pos m)) n (nat_lt n (2 ^ 64)) refl (below_wide n) (minus_wide n)

narrow : (n : ℤ) (b : Bool) → within (neg_ℤ (pos 18446744073709551615)) (pos 18446744073709551615) n ≡ b → option_and_then only_int64 (if b then Some n else None) ≡ only_int64 n
narrow n true test = refl
narrow n false test = grind (arith, common_steps)

-- a number of INT64 is within 64 bits and a sign
pub int64_first : (o : Option ℤ) → option_and_then only_int64 (option_and_then only_wide o) ≡ option_and_then only_int64 o
int64_first None = refl
int64_first (Some n) = narrow n (within (neg_ℤ (pos 18446744073709551615)) (pos 18446744073709551615) n) refl
