-- Stretches that lie end to end: a place, and its stretch with the place in it, determine each other.
use Rattle.std.proofs.Common.{◌≡◌, ℕ, zero, suc, ◌+◌, ◌-◌, ◌<◌, ◌≤◌, Bool, true, false, List, [], ◌∷◌, length, get_or, take, if◌then◌else◌, nat_lt, refl, arith}
use Rattle.std.proofs.lemmas.Bool.Decides.{nat_tests}
use Rattle.sql_types.specs.Calendar.{total, further, located}

-- the place is that one of the stretch
pub located-at : (xs : List ℕ) (k r : ℕ) → k < length xs → r < get_or xs k 0 → located xs (total (take k xs) + r) ≡ (k, r)
unfolding located
located-at [] k r among inside = absurd (omega arith)
located-at (x ∷ xs) zero r among inside =
    let same : total (take zero (x ∷ xs)) + r ≡ r = omega arith in
    let early : nat_lt r x ≡ true = grind (arith, nat_tests) in
    rw (same, early) refl
located-at (x ∷ xs) (suc k) r among inside =
    let late : nat_lt (x + total (take k xs) + r) x ≡ false = grind (arith, nat_tests) in
    let back : x + total (take k xs) + r - x ≡ total (take k xs) + r = omega arith in
    let later = located-at xs k r (omega arith) inside in
    rw (late, back, later) refl

-- the stretch and the place in it that are found are those of the place
pub record IsAt (xs : List ℕ) (place : ℕ) (found : ℕ × ℕ) : Type 0 where
  pub among : found.0 < length xs
  pub inside : found.1 < get_or xs found.0 0
  pub adds_up : total (take found.0 xs) + found.1 ≡ place

is_at-further : (x : ℕ) (xs : List ℕ) (place : ℕ) (found : ℕ × ℕ) → x ≤ place → IsAt xs (place - x) found → IsAt (x ∷ xs) place (further found)
is_at-further x xs place found late at = record { among = omega arith; inside = at.inside; adds_up = omega arith }

is_at-by : (x : ℕ) (xs : List ℕ) (place : ℕ) (b : Bool) → nat_lt place x ≡ b → (x ≤ place → IsAt xs (place - x) (located xs (place - x)))
    → IsAt (x ∷ xs) place (if b then (0, place) else further (located xs (place - x)))
is_at-by x xs place true test later = record { among = omega arith; inside = grind (arith, nat_tests); adds_up = omega arith }
is_at-by x xs place false test later =
    let late : x ≤ place = grind (arith, nat_tests) in
    is_at-further x xs place (located xs (place - x)) late (later late)

pub is_at-located : (xs : List ℕ) (place : ℕ) → place < total xs → IsAt xs place (located xs place)
unfolding located
is_at-located [] place short = absurd (omega arith)
is_at-located (x ∷ xs) place short = is_at-by x xs place (nat_lt place x) refl (λ late. is_at-located xs (place - x) (omega arith))
