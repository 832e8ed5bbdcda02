-- What the rows on bits give: numbers of 64 bits.
use Rattle.std.proofs.Common.{◌≡◌, ℕ, ◌-◌, ◌*◌, ◌/◌, ◌%◌, ◌^◌, ◌<◌, ℤ, pos, negsuc, Bool, true, false, List, [], ◌∷◌, Ok, arith, w64, ltb-true}
use Rattle.std.specs.Prelude.{nat_abs, nat_lt, bit_and, bit_or, bit_xor, if◌then◌else◌}
use Rattle.std.specs.Int.{cast_signed}
use Rattle.std.proofs.lemmas.Grind.{common_steps}
use Rattle.std.proofs.lemmas.Bool.{false≢true}
use Rattle.std.proofs.lemmas.Int.{ints}
use Rattle.std.proofs.lemmas.Nat.{and_le_l, or_lt, xor_lt, shr_le, mod_below}
use Rattle.sql_types.specs.declared.sql_type.SqlType.{SqlType}
use Rattle.sql_types.specs.declared.sql_type.SqlType.TheVariants as ty
use Rattle.sql_types.specs.declared.sql_type.SqlType.TheOpen as t
use Rattle.sql_types.specs.declared.value.Value.{Value, out-Value}
use Rattle.sql_types.specs.declared.value.Value.TheOpen as v
use Rattle.sql_types.specs.Fits.{fits}
use Rattle.sql_types.specs.Outcome.{Outcome}
use Rattle.sql_types.specs.Takes.{strict, number, number_layer, fits_types}
use Rattle.sql_types.proofs.ValueOpens.{fits_at}
use Rattle.sql_types.proofs.TestParts.{first as left_of, second as right_of}
use Rattle.sql_numbers.specs.Integers as i
use Rattle.sql_gives.proofs.GivesLaws.{Gives, null_fits, strict_gives, int_fits, uint_fits, at_form}
use Rattle.sql_gives.proofs.NumberRows.{number_gives, numbers_give}

-- ---- INT64: each number of bits makes one

int_made : (n : ℕ) → fits ty.Int64 (i.int64_bits.made n) ≡ true
int_made n = int_fits (cast_signed w64 n) (grind (arith, ints, common_steps))

by_places_gives : (type : SqlType) (shift : ℕ → Value) (b : ℤ) → ((n : ℕ) → fits type (shift n) ≡ true) → Gives type (i.by_places shift b)
by_places_gives type shift (pos n) each = each n
by_places_gives type shift (negsuc n) each = tt

pub int_flip_gives : (values : List Value) → Gives ty.Int64 (i.apply_flip i.int64_bits values)
int_flip_gives =
    number_gives ty.Int64 (λ a. Ok (i.int64_bits.made (18446744073709551615 - i.int64_bits.bits a))) (λ a. int_made (18446744073709551615 - i.int64_bits.bits a))

int_pairs_give : (f : ℕ → ℕ → ℕ) (values : List Value) → Gives ty.Int64 (strict (i.of_two (λ a b. Ok (i.int64_bits.made (f (i.int64_bits.bits a) (i.int64_bits.bits b))))) values)
int_pairs_give f =
    numbers_give ty.Int64 (λ a b. Ok (i.int64_bits.made (f (i.int64_bits.bits a) (i.int64_bits.bits b)))) (λ a b. int_made (f (i.int64_bits.bits a) (i.int64_bits.bits b)))

pub int_bitand_gives : (values : List Value) → Gives ty.Int64 (i.apply_bitand i.int64_bits values)
int_bitand_gives = int_pairs_give bit_and

pub int_bitxor_gives : (values : List Value) → Gives ty.Int64 (i.apply_bitxor i.int64_bits values)
int_bitxor_gives = int_pairs_give bit_xor

pub int_bitor_gives : (values : List Value) → Gives ty.Int64 (i.apply_bitor i.int64_bits values)
int_bitor_gives = int_pairs_give bit_or

int_shifts_give : (f : ℕ → ℕ → ℕ) (values : List Value) → Gives ty.Int64 (strict (i.of_two (λ a b. i.by_places (λ places. i.int64_bits.made (f (i.int64_bits.bits a) places)) b)) values)
int_shifts_give f =
    numbers_give ty.Int64 (λ a b. i.by_places (λ places. i.int64_bits.made (f (i.int64_bits.bits a) places)) b)
    (λ a b. by_places_gives ty.Int64 (λ places. i.int64_bits.made (f (i.int64_bits.bits a) places)) b (λ n. int_made (f (i.int64_bits.bits a) n)))

pub int_shl_gives : (values : List Value) → Gives ty.Int64 (i.apply_shl i.int64_bits values)
int_shl_gives = int_shifts_give i.shifted_left

pub int_shr_gives : (values : List Value) → Gives ty.Int64 (i.apply_shr i.int64_bits values)
int_shr_gives = int_shifts_give i.shifted_right

-- ---- UINT64: a number below 2 ^ 64 makes one, and a value of the type says one

abbrev Small : ℤ → Type 0
Small a = nat_abs a < 18446744073709551616

uint_made : (n : ℕ) → n < 18446744073709551616 → fits ty.Uint64 (i.uint64_bits.made n) ≡ true
uint_made n small = uint_fits n (grind (arith, common_steps))

small_layer : (x : v.Value-F Value) → fits_at t.Uint64 x ≡ true → Small (number_layer x)
small_layer (v.Uint n) fit = ltb-true n 18446744073709551616 fit
small_layer v.Null fit = omega arith
small_layer _ fit = absurd (false≢true fit)

small_number : (x : Value) → fits ty.Uint64 x ≡ true → Small (number x)
small_number x fit = small_layer (out-Value x) (at_form ty.Uint64 t.Uint64 x ty.outs-Uint64 fit)

pub uint_flip_gives : (values : List Value) → Gives ty.Uint64 (i.apply_flip i.uint64_bits values)
uint_flip_gives =
    number_gives ty.Uint64 (λ a. Ok (i.uint64_bits.made (18446744073709551615 - nat_abs a))) (λ a. uint_made (18446744073709551615 - nat_abs a) (omega arith))

-- of two numbers the first is of the type, and the second may be
pair_by : (f : ℤ → ℤ → Outcome Value) (second : SqlType) (values : List Value) → ((x y : Value) → fits ty.Uint64 x ≡ true → fits second y ≡ true → Gives ty.Uint64 (f (number x) (number y))) → fits_types (ty.Uint64 ∷ second ∷ []) values ≡ true → Gives ty.Uint64 (i.of_two f values)
pair_by f second (x ∷ y ∷ []) each fit =
    each x y (left_of (fits ty.Uint64 x) _ fit) (left_of (fits second y) _ (right_of (fits ty.Uint64 x) _ fit))
pair_by f second [] each fit = null_fits ty.Uint64
pair_by f second (x ∷ []) each fit = null_fits ty.Uint64
pair_by f second (x ∷ y ∷ z ∷ more) each fit = null_fits ty.Uint64

pair_gives : (f : ℤ → ℤ → Outcome Value) (second : SqlType) → ((x y : Value) → fits ty.Uint64 x ≡ true → fits second y ≡ true → Gives ty.Uint64 (f (number x) (number y))) → (values : List Value) → fits_types (ty.Uint64 ∷ second ∷ []) values ≡ true → Gives ty.Uint64 (strict (i.of_two f) values)
pair_gives f second each values fit = strict_gives ty.Uint64 (i.of_two f) values (pair_by f second values each fit)

-- values of two numbers
abbrev pub TwoUints : List Value → Type 0
TwoUints values = fits_types (ty.Uint64 ∷ ty.Uint64 ∷ []) values ≡ true

uint_pairs_give : (f : ℕ → ℕ → ℕ) → ((a b : ℕ) → a < 18446744073709551616 → b < 18446744073709551616 → f a b < 18446744073709551616) → (values : List Value) → TwoUints values → Gives ty.Uint64 (strict (i.of_two (λ a b. Ok (i.uint64_bits.made (f (nat_abs a) (nat_abs b))))) values)
uint_pairs_give f keeps =
    pair_gives (λ a b. Ok (i.uint64_bits.made (f (nat_abs a) (nat_abs b)))) ty.Uint64
    (λ x y fit other. uint_made (f (nat_abs (number x)) (nat_abs (number y))) (keeps (nat_abs (number x)) (nat_abs (number y)) (small_number x fit) (small_number y other)))

pub uint_bitand_gives : (values : List Value) → TwoUints values → Gives ty.Uint64 (i.apply_bitand i.uint64_bits values)
uint_bitand_gives = uint_pairs_give bit_and (λ a b small other. omega (arith, and_le_l a b))

pub uint_bitxor_gives : (values : List Value) → TwoUints values → Gives ty.Uint64 (i.apply_bitxor i.uint64_bits values)
uint_bitxor_gives = uint_pairs_give bit_xor (λ a b small other. xor_lt 64 a b small other)

pub uint_bitor_gives : (values : List Value) → TwoUints values → Gives ty.Uint64 (i.apply_bitor i.uint64_bits values)
uint_bitor_gives = uint_pairs_give bit_or (λ a b small other. or_lt 64 a b small other)

uint_shifts_give : (f : ℕ → ℕ → ℕ) → ((a places : ℕ) → a < 18446744073709551616 → f a places < 18446744073709551616) → (values : List Value) → fits_types (ty.Uint64 ∷ ty.Int64 ∷ []) values ≡ true → Gives ty.Uint64 (strict (i.of_two (λ a b. i.by_places (λ places. i.uint64_bits.made (f (nat_abs a) places)) b)) values)
uint_shifts_give f keeps =
    pair_gives (λ a b. i.by_places (λ places. i.uint64_bits.made (f (nat_abs a) places)) b) ty.Int64
    (λ x y fit other. by_places_gives ty.Uint64 (λ places. i.uint64_bits.made (f (nat_abs (number x)) places)) (number y) (λ n. uint_made (f (nat_abs (number x)) n) (keeps (nat_abs (number x)) n (small_number x fit))))

left_by : (b : Bool) (n : ℕ) → n < 18446744073709551616 → (if b then n else 0) < 18446744073709551616
left_by true n small = small
left_by false n small = omega arith

pub uint_shl_gives : (values : List Value) → fits_types (ty.Uint64 ∷ ty.Int64 ∷ []) values ≡ true → Gives ty.Uint64 (i.apply_shl i.uint64_bits values)
uint_shl_gives = uint_shifts_give i.shifted_left (λ a places small. left_by (nat_lt places 64) ((a * 2 ^ places) % 18446744073709551616) (mod_below (a * 2 ^ places) 18446744073709551616 (omega arith)))

pub uint_shr_gives : (values : List Value) → fits_types (ty.Uint64 ∷ ty.Int64 ∷ []) values ≡ true → Gives ty.Uint64 (i.apply_shr i.uint64_bits values)
uint_shr_gives = uint_shifts_give i.shifted_right (λ a places small. left_by (nat_lt places 64) (a / 2 ^ places) (omega (arith, shr_le a places, small)))
