-- Where the digits of a number end.
use Rattle.std.proofs.Common.{◌≡◌, ℕ, ◌+◌, ◌%◌, ◌<◌, ◌≤◌, ◌^◌, Bool, true, false, not, List, [], ◌∷◌, ◌++◌, decimal, refl, ap, sym, ◌∙◌, arith, append_assoc}
use Rattle.std.specs.Char.{is_ascii_digit}
use Rattle.std.specs.List.{list_all}
use Rattle.std.proofs.lemmas.Bool.{and_parts}
use Rattle.std.proofs.lemmas.Bool.Decides.{nat_tests}
use Rattle.std.proofs.lemmas.Fmt.{decimal_by_steps, decimal_injective}

-- no digit stands at the front
abbrev pub stops : List ℕ → Bool
stops [] = true
stops (c ∷ r) = not (is_ascii_digit c)

-- the first byte, or 0 where there is none
abbrev pub first_of : List ℕ → ℕ
first_of [] = 0
first_of (c ∷ r) = c

-- digits, at least one
abbrev pub Digits : List ℕ → Type 0
Digits ds = (list_all is_ascii_digit ds ≡ true) × ((r : List ℕ) → is_ascii_digit (first_of (ds ++ r)) ≡ true)

one_digit : (n : ℕ) → n < 10 → is_ascii_digit (48 + n) ≡ true
one_digit n small = grind (arith, nat_tests)

last_digit : (ds : List ℕ) (d : ℕ) → list_all is_ascii_digit ds ≡ true → is_ascii_digit d ≡ true → list_all is_ascii_digit (ds ++ d ∷ []) ≡ true
last_digit [] d all is = rw is refl
last_digit (c ∷ ds) d all is = let both = and_parts (is_ascii_digit c) (list_all is_ascii_digit ds) all in rw (both.0) (last_digit ds d both.1 is)

one_of : (n : ℕ) → n < 10 → Digits ((48 + n) ∷ [])
one_of n small = let is = one_digit n small in (rw is refl, λ r. is)

more_of : (n : ℕ) (ds : List ℕ) → 10 ≤ n → Digits ds → Digits (ds ++ ((48 + n % 10) ∷ []))
more_of n ds large d = (last_digit ds (48 + n % 10) d.0 (one_digit (n % 10) (omega arith)), λ r. ap (λ z. is_ascii_digit (first_of z)) (append_assoc ds ((48 + n % 10) ∷ []) r) ∙ d.1 (((48 + n % 10) ∷ []) ++ r))

pub decimal_digits : (n : ℕ) → n < 2 ^ 64 → Digits (decimal n)
decimal_digits n small = decimal_by_steps (λ n ds. Digits ds) one_of more_of n small

digit_stops : (c : ℕ) (r s : List ℕ) → is_ascii_digit c ≡ true → stops r ≡ true → r ≡ c ∷ s → true ≡ false
digit_stops c r s is stop e = sym stop ∙ ap stops e ∙ ap not is

digits_once : (xs ys r s : List ℕ) → list_all is_ascii_digit xs ≡ true → list_all is_ascii_digit ys ≡ true → stops r ≡ true → stops s ≡ true → xs ++ r ≡ ys ++ s → (xs ≡ ys) × (r ≡ s)
digits_once [] [] r s all all' stop stop' e = (refl, e)
digits_once [] (y ∷ ys) r s all all' stop stop' e = absurd (let f = digit_stops y r (ys ++ s) (and_parts (is_ascii_digit y) (list_all is_ascii_digit ys) all').0 stop e in cc)
digits_once (x ∷ xs) [] r s all all' stop stop' e = absurd (let f = digit_stops x s (xs ++ r) (and_parts (is_ascii_digit x) (list_all is_ascii_digit xs) all).0 stop' (sym e) in cc)
digits_once (x ∷ xs) (y ∷ ys) r s all all' stop stop' e =
    let first : x ≡ y = cc in
    let behind : xs ++ r ≡ ys ++ s = cc in
    let rest = digits_once xs ys r s (and_parts (is_ascii_digit x) (list_all is_ascii_digit xs) all).1 (and_parts (is_ascii_digit y) (list_all is_ascii_digit ys) all').1 stop stop' behind in
    let same = rest.0 in
    (cc, rest.1)

-- numbers, with no digit behind them
pub decimal_once : (n m : ℕ) (r s : List ℕ) → n < 2 ^ 64 → m < 2 ^ 64 → stops r ≡ true → stops s ≡ true → decimal n ++ r ≡ decimal m ++ s → (n ≡ m) × (r ≡ s)
decimal_once n m r s small small' stop stop' e =
    let d = decimal_digits n small in
    let d' = decimal_digits m small' in
    let rest = digits_once (decimal n) (decimal m) r s d.0 d'.0 stop stop' e in
    (decimal_injective n m small small' rest.0, rest.1)
