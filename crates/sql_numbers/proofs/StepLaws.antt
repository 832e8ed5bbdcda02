-- The numbers that lie in steps between two.
use Rattle.std.proofs.Common.{◌≡◌, ℕ, zero, suc, ◌<◌, ◌≤◌, ◌+◌, ◌*◌, ◌/◌, ℤ, pos, negsuc, ◌+ℤ◌, ◌-ℤ◌, ◌*ℤ◌, ◌++◌, List, [], ◌∷◌, sym, ap, ◌∙◌, arith, FitsSigned, w64, ◌≤ℤ◌}
use Rattle.std.proofs.lemmas.Int.{ints}
use Rattle.std.proofs.Math.IntN.{suc_ℤ-*ℤ}
use Rattle.std.proofs.Math.Nat.{div-mul-le_self, mul-le-mul_right}
use Rattle.sql_types.specs.declared.value.Value.{Value}
use Rattle.sql_types.specs.declared.value.Value.TheVariants as value
use Rattle.sql_numbers.specs.Arrays as rows

-- one step more
moved : (first step : ℤ) (k : ℕ) → first +ℤ step +ℤ pos k *ℤ step ≡ first +ℤ pos (suc k) *ℤ step
moved first step k = let h : pos (suc k) *ℤ step ≡ pos k *ℤ step +ℤ step = suc_ℤ-*ℤ (pos k) step in omega (arith, ints)

not_moved : (first step : ℤ) → first ≡ first +ℤ pos 0 *ℤ step
not_moved first step = omega (arith, ints)

-- one number more is put at the end
pub in_steps_end : (first step : ℤ) (k : ℕ) → rows.in_steps first step (suc k) ≡ rows.in_steps first step k ++ (value.Int (first +ℤ pos k *ℤ step) ∷ [])
in_steps_end first step zero = ap (λ n. value.Int n ∷ []) (not_moved first step)
in_steps_end first step (suc k) = ap (λ more. value.Int first ∷ more) (in_steps_end (first +ℤ step) step k) ∙ ap (λ n. value.Int first ∷ (rows.in_steps (first +ℤ step) step k ++ (value.Int n ∷ []))) (moved first step k)

plus_one : (k : ℕ) → suc k ≡ k + 1
plus_one k = omega arith

pub one_more : (first step number : ℤ) (k : ℕ) (numbers : List Value) → numbers ≡ rows.in_steps first step k → number ≡ first +ℤ pos k *ℤ step → numbers ++ (value.Int number ∷ []) ≡ rows.in_steps first step (k + 1)
one_more first step number k numbers so_far next = rw (so_far, next) (sym (in_steps_end first step k) ∙ ap (λ n. rows.in_steps first step n) (plus_one k))

pub one_further : (first step number : ℤ) (k : ℕ) → number ≡ first +ℤ pos k *ℤ step → number +ℤ step ≡ first +ℤ pos (k + 1) *ℤ step
one_further first step number k next = let h : pos (suc k) *ℤ step ≡ pos k *ℤ step +ℤ step = suc_ℤ-*ℤ (pos k) step in omega (arith, ints)

-- no step leads past the end
no_further : (distance : ℤ) (size k : ℕ) → k < rows.steps distance size → pos (k * size) ≤ℤ distance
no_further (pos d) size k h =
    let small : k ≤ d / size = omega arith in
    let times : k * size ≤ d / size * size = mul-le-mul_right size small in
    let whole : d / size * size ≤ d = div-mul-le_self d size in
    omega (arith, ints)
no_further (negsuc less) size k h = absurd (omega arith)

between_fits : (a z b : ℤ) → FitsSigned w64 a → FitsSigned w64 b → a ≤ℤ z → z ≤ℤ b → FitsSigned w64 z
between_fits a z b low high from to = omega (arith, ints)

-- each number from the first to the last is an INT64
pub step_fits : (first last step : ℤ) → FitsSigned w64 first → FitsSigned w64 last → (k : ℕ) → k < rows.number_of_steps first last step → FitsSigned w64 (first +ℤ pos k *ℤ step)
step_fits first last (pos size) low high k h =
    let reach : pos (k * size) ≤ℤ (last -ℤ first) = no_further (last -ℤ first) size k h in
    between_fits first (first +ℤ pos (k * size)) last low high (omega (arith, ints)) (omega (arith, ints))
step_fits first last (negsuc less) low high k h =
    let reach : pos (k * suc less) ≤ℤ (first -ℤ last) = no_further (first -ℤ last) (suc less) k h in
    let same : pos k *ℤ negsuc less +ℤ pos (k * suc less) ≡ pos 0 = omega (arith, ints) in
    between_fits last (first +ℤ pos k *ℤ negsuc less) first high low (omega (arith, ints)) (omega (arith, ints))
