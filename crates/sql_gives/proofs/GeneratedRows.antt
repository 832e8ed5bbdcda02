-- GENERATE_ARRAY gives an array of INT64: each number lies from the first to the last, which are INT64s.
use Rattle.std.proofs.Common.{◌≡◌, ℕ, zero, suc, ◌<◌, ◌≤◌, ◌*◌, ◌/◌, ℤ, pos, negsuc, ◌+ℤ◌, ◌-ℤ◌, ◌*ℤ◌, ◌≤ℤ◌, Bool, true, false, List, [], ◌∷◌, Ok, Err, refl, subst, arith, FitsSigned, w64}
use Rattle.std.specs.Prelude.{nat_abs, nat_lt, ◌==◌, if◌then◌else◌}
use Rattle.std.specs.List.{list_all}
use Rattle.std.proofs.lemmas.Bool.{false≢true}
use Rattle.std.proofs.lemmas.Grind.{common_steps}
use Rattle.std.proofs.lemmas.Int.{ints}
use Rattle.std.proofs.Math.IntN.{suc_ℤ-*ℤ}
use Rattle.std.proofs.Math.Nat.{div-mul-le_self, mul-le-mul_right}
use Rattle.sql_types.specs.declared.sql_type.SqlType.TheVariants as ty
use Rattle.sql_types.specs.declared.sql_type.SqlType.TheOpen as t
use Rattle.sql_types.specs.declared.value.Value.{Value, out-Value}
use Rattle.sql_types.specs.declared.value.Value.TheVariants as value
use Rattle.sql_types.specs.declared.value.Value.TheOpen as v
use Rattle.sql_types.specs.declared.fault.FaultKind.TheVariants as fault
use Rattle.sql_types.specs.Fits.{fits, within}
use Rattle.sql_types.specs.Outcome.{Outcome}
use Rattle.sql_types.specs.Takes.{number, number_layer, fits_types_or_less}
use Rattle.sql_types.proofs.ValueOpens.{fits_at}
use Rattle.sql_types.proofs.TestParts.{first as left_of, second as right_of}
use Rattle.sql_numbers.specs.Arrays as a
use Rattle.sql_gives.proofs.EachPasses.{both}
use Rattle.sql_gives.proofs.GivesLaws.{Gives, null_fits, strict_gives, int_fits, array_fits, at_form}

-- ---- numbers of INT64

inside_fits : (n : ℤ) → within (negsuc 9223372036854775807) (pos 9223372036854775807) n ≡ true → FitsSigned w64 n
inside_fits (pos n) is = record { sfits = grind (arith, common_steps) }
inside_fits (negsuc n) is = record { sfits = grind (arith, common_steps) }

fits_inside : (n : ℤ) → FitsSigned w64 n → within (negsuc 9223372036854775807) (pos 9223372036854775807) n ≡ true
fits_inside (pos n) fits = let h : n < 9223372036854775808 = fits.sfits in grind (arith, common_steps)
fits_inside (negsuc n) fits = let h : n < 9223372036854775808 = fits.sfits in grind (arith, common_steps)

number_form : (x : v.Value-F Value) → fits_at t.Int64 x ≡ true → FitsSigned w64 (number_layer x)
number_form (v.Int n) fit = inside_fits n fit
number_form v.Null fit = record { sfits = omega arith }
number_form _ fit = absurd (false≢true fit)

number_fits : (x : Value) → fits ty.Int64 x ≡ true → FitsSigned w64 (number x)
number_fits x fit = number_form (out-Value x) (at_form ty.Int64 t.Int64 x ty.outs-Int64 fit)

-- ---- each step

-- no step leads past the end
no_further : (distance : ℤ) (size k : ℕ) → k < a.steps distance size → pos (k * size) ≤ℤ distance
no_further (pos d) size k h =
    let small : k ≤ d / size = omega arith in
    let times : k * size ≤ d / size * size = mul-le-mul_right size small in
    let whole : d / size * size ≤ d = div-mul-le_self d size in
    omega (arith, ints)
no_further (negsuc less) size k h = absurd (omega arith)

between_fits : (low n high : ℤ) → FitsSigned w64 low → FitsSigned w64 high → low ≤ℤ n → n ≤ℤ high → FitsSigned w64 n
between_fits low n high least greatest from to = omega (arith, ints)

step_fits : (first last step : ℤ) → FitsSigned w64 first → FitsSigned w64 last → (k : ℕ) → k < a.number_of_steps first last step → FitsSigned w64 (first +ℤ pos k *ℤ step)
step_fits first last (pos size) low high k h =
    let reach : pos (k * size) ≤ℤ (last -ℤ first) = no_further (last -ℤ first) size k h in
    between_fits first (first +ℤ pos (k * size)) last low high (omega (arith, ints)) (omega (arith, ints))
step_fits first last (negsuc less) low high k h =
    let reach : pos (k * suc less) ≤ℤ (first -ℤ last) = no_further (first -ℤ last) (suc less) k h in
    let same : pos k *ℤ negsuc less +ℤ pos (k * suc less) ≡ pos 0 = omega (arith, ints) in
    between_fits last (first +ℤ pos k *ℤ negsuc less) first high low (omega (arith, ints)) (omega (arith, ints))

-- one step more
moved : (first step : ℤ) (k : ℕ) → first +ℤ pos (suc k) *ℤ step ≡ first +ℤ step +ℤ pos k *ℤ step
moved first step k = let h : pos (suc k) *ℤ step ≡ pos k *ℤ step +ℤ step = suc_ℤ-*ℤ (pos k) step in omega (arith, ints)

not_moved : (first step : ℤ) → first +ℤ pos 0 *ℤ step ≡ first
not_moved first step = omega (arith, ints)

in_steps_fit : (first step : ℤ) (n : ℕ) → ((k : ℕ) → k < n → FitsSigned w64 (first +ℤ pos k *ℤ step)) → list_all (fits ty.Int64) (a.in_steps first step n) ≡ true
in_steps_fit first step zero each = refl
in_steps_fit first step (suc n) each =
    both (fits ty.Int64 (value.Int first)) (list_all (fits ty.Int64) (a.in_steps (first +ℤ step) step n))
    (int_fits first (fits_inside first (subst (FitsSigned w64) (not_moved first step) (each 0 (omega arith)))))
    (in_steps_fit (first +ℤ step) step n (λ k h. subst (FitsSigned w64) (moved first step k) (each (suc k) (omega (arith, h)))))

-- ---- the row

so_many : (b : Bool) (first step : ℤ) (n : ℕ) → ((k : ℕ) → k < n → FitsSigned w64 (first +ℤ pos k *ℤ step)) → Gives (ty.Array ty.Int64) (if b then Err fault.OutOfRange else Ok (value.Array (a.in_steps first step n)))
so_many true first step n each = tt
so_many false first step n each = array_fits ty.Int64 (a.in_steps first step n) (in_steps_fit first step n each)

unless_none : (b : Bool) (o : Outcome Value) → Gives (ty.Array ty.Int64) o → Gives (ty.Array ty.Int64) (if b then Err fault.Argument else o)
unless_none true o gives = tt
unless_none false o gives = gives

generated_gives : (first last step : ℤ) → FitsSigned w64 first → FitsSigned w64 last → Gives (ty.Array ty.Int64) (a.generated first last step)
generated_gives first last step low high =
    unless_none (nat_abs step == 0) (a.at_most_so_many first step (a.number_of_steps first last step))
    (so_many (nat_lt 1048576 (a.number_of_steps first last step)) first step (a.number_of_steps first last step) (step_fits first last step low high))

row : (values : List Value) → fits_types_or_less (ty.Int64 ∷ ty.Int64 ∷ []) ty.Int64 values ≡ true → Gives (ty.Array ty.Int64) (a.generate_row values)
row (x ∷ y ∷ []) fit =
    generated_gives (number x) (number y) (pos 1) (number_fits x (left_of (fits ty.Int64 x) _ fit)) (number_fits y (left_of (fits ty.Int64 y) _ (right_of (fits ty.Int64 x) _ fit)))
row (x ∷ y ∷ z ∷ []) fit =
    generated_gives (number x) (number y) (number z) (number_fits x (left_of (fits ty.Int64 x) _ fit)) (number_fits y (left_of (fits ty.Int64 y) _ (right_of (fits ty.Int64 x) _ fit)))
row _ fit = null_fits (ty.Array ty.Int64)

pub generate_gives : (values : List Value) → fits_types_or_less (ty.Int64 ∷ ty.Int64 ∷ []) ty.Int64 values ≡ true → Gives (ty.Array ty.Int64) (a.apply_generate_array values)
generate_gives values fit = strict_gives (ty.Array ty.Int64) a.generate_row values (row values fit)
