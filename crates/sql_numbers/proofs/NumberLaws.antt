-- Which numbers the two types have.
use Rattle.std.proofs.Common.{◌≡◌, ℕ, ◌<◌, ◌^◌, Bool, true, false, ℤ, pos, negsuc, Option, None, Some, Ok, Err, refl, sym, ap, ◌∙◌, arith, FitsSigned, w64}
use Rattle.std.specs.Prelude.{SomeIff, nat_lt, if◌then◌else◌}
use Rattle.std.proofs.lemmas.Grind.{common_steps}
use Rattle.sql_types.specs.declared.value.Value.TheVariants as value
use Rattle.sql_types.specs.declared.fault.FaultKind.TheVariants as fault
use Rattle.sql_types.specs.Fits.{within}
use Rattle.sql_types.specs.Takes.{as_int64, as_uint64}
use Rattle.sql_numbers.specs.Results.{int_or_fault, uint_or_fault}

abbrev in_int64 : ℤ → Bool
in_int64 = within (negsuc 9223372036854775807) (pos 9223372036854775807)

pub fits_within : (z : ℤ) → FitsSigned w64 z → in_int64 z ≡ true
fits_within (pos n) fits = let h : n < 9223372036854775808 = fits.sfits in grind (arith, common_steps)
fits_within (negsuc n) fits = let h : n < 9223372036854775808 = fits.sfits in grind (arith, common_steps)

pub within_fits : (z : ℤ) → in_int64 z ≡ true → FitsSigned w64 z
within_fits (pos n) is = record { sfits = grind (arith, common_steps) }
within_fits (negsuc n) is = record { sfits = grind (arith, common_steps) }

-- a number that its type has is itself
pub int_itself : (z : ℤ) → FitsSigned w64 z → as_int64 z ≡ Ok (value.Int z)
int_itself z fits = rw (fits_within z fits) refl

outside : (z : ℤ) (b : Bool) → in_int64 z ≡ b → (FitsSigned w64 z → ⊥) → Err fault.OutOfRange ≡ (if b then Ok (value.Int z) else Err fault.OutOfRange)
outside z true is none = absurd (none (within_fits z is))
outside z false is none = refl

pub int_fits : (z : ℤ) (r : Option ℤ) → SomeIff r (FitsSigned w64 z) z → int_or_fault r ≡ as_int64 z
int_fits z None none = outside z (in_int64 z) refl none
int_fits z (Some x) (fits, is) = ap (λ n. Ok (value.Int n)) is ∙ sym (int_itself z fits)

pub uint_itself : (n : ℕ) → n < 2 ^ 64 → as_uint64 (pos n) ≡ Ok (value.Uint n)
uint_itself n fits = let is : nat_lt n 18446744073709551616 ≡ true = grind (arith, common_steps) in rw is refl

above : (n : ℕ) (b : Bool) → nat_lt n 18446744073709551616 ≡ b → (n < 2 ^ 64 → ⊥) → Err fault.OutOfRange ≡ (if b then Ok (value.Uint n) else Err fault.OutOfRange)
above n true is none = absurd (none (grind (arith, common_steps)))
above n false is none = refl

pub uint_fits : (n : ℕ) (r : Option ℕ) → SomeIff r (n < 2 ^ 64) n → uint_or_fault r ≡ as_uint64 (pos n)
uint_fits n None none = above n (nat_lt n 18446744073709551616) refl none
uint_fits n (Some x) (fits, is) = ap (λ m. Ok (value.Uint m)) is ∙ sym (uint_itself n fits)
