-- What stops at the greatest number multiplies and doubles as the numbers themselves do.
use Rattle.std.proofs.Common.{◌≡◌, ℕ, zero, suc, ◌+◌, ◌*◌, ◌^◌, ◌≤◌, ◌<◌, ◌⊎◌, inl, inr, min, refl, ap, sym, ◌∙◌, arith}
use Rattle.std.proofs.Math.Nat.{mul-zero, mul_comm, two-pow-succ}
use Rattle.std.proofs.lemmas.Nat.{mul-le}
use Rattle.std.proofs.lemmas.Bool.{cases_order}

abbrev most : ℕ
most = 18446744073709551615

abbrev Side : ℕ → Type 0
Side a = (a ≤ most) ⊎ (most ≤ a)

side_of : (a : ℕ) → ((a ≡ most) ⊎ ((a < most) ⊎ (most < a))) → Side a
side_of a (inl same) = inl (omega (arith, same))
side_of a (inr (inl below)) = inl (omega (arith, below))
side_of a (inr (inr above)) = inr (omega (arith, above))

side : (a : ℕ) → Side a
side a = side_of a (cases_order a most)

kept : (a : ℕ) → a ≤ most → min a most ≡ a
kept a small = omega (arith, small)

full : (a : ℕ) → most ≤ a → min a most ≡ most
full a far = omega (arith, far)

-- the product of two numbers that stop is the product that stops
abbrev Multiplies : ℕ → ℕ → Type 0
Multiplies a b = min (min a most * min b most) most ≡ min (a * b) most

turned : (a b : ℕ) → Multiplies b a → Multiplies a b
turned a b same = ap (λ k. min k most) (mul_comm (min a most) (min b most)) ∙ same ∙ ap (λ k. min k most) (mul_comm b a)

none : (a : ℕ) → Multiplies a 0
none a = ap (λ k. min k most) (mul-zero (min a most) ∙ sym (mul-zero a))

past : (a b : ℕ) → most ≤ a → Multiplies a (suc b)
past a b far =
    full (min a most * min (suc b) most) (mul-le most 1 (min a most) (min (suc b) most) (omega (arith, far)) (omega arith))
    ∙ sym (full (a * suc b) (mul-le most 1 a (suc b) far (omega arith)))

multiplies : (a b : ℕ) → Side a → Side b → Multiplies a b
multiplies a b (inl small) (inl little) = rw (kept a small) (rw (kept b little) refl)
multiplies a zero (inr far) other = none a
multiplies a (suc b) (inr far) other = past a b far
multiplies zero b (inl small) (inr far) = turned 0 b (none b)
multiplies (suc a) b (inl small) (inr far) = turned (suc a) b (past b a far)

pub capped_product : (a b : ℕ) → min (min a 18446744073709551615 * min b 18446744073709551615) 18446744073709551615 ≡ min (a * b) 18446744073709551615
capped_product a b = multiplies a b (side a) (side b)

-- a factor that is below
pub capped_factor : (a b : ℕ) → a < 18446744073709551616 → min (a * min b 18446744073709551615) 18446744073709551615 ≡ min (a * b) 18446744073709551615
capped_factor a b below = ap (λ k. min (k * min b most) most) (sym (kept a (omega (arith, below)))) ∙ capped_product a b

pub doubled : (n : ℕ) → 2 ^ (n + 1) ≡ 2 ^ n + 2 ^ n
doubled n = ap (λ k. 2 ^ k) (omega arith) ∙ two-pow-succ n
