-- What fits a type: NULL, truth values, numbers and arrays. A fault is no value.
use Rattle.std.proofs.Common.{◌≡◌, ℕ, ◌<◌, ℤ, pos, negsuc, Bool, true, false, List, Option, Some, None, Ok, Err, refl, ap, sym, ◌∙◌, arith, ltb-true}
use Rattle.std.specs.Prelude.{IfOk, nat_lt, if◌then◌else◌}
use Rattle.std.specs.List.{list_all}
use Rattle.std.proofs.lemmas.Grind.{common_steps}
use Rattle.sql_types.specs.declared.sql_type.SqlType.{SqlType, out-SqlType, map-SqlType}
use Rattle.sql_types.specs.declared.sql_type.SqlType.TheVariants as ty
use Rattle.sql_types.specs.declared.sql_type.SqlType.TheOpen as t
use Rattle.sql_types.specs.declared.value.Value.{Value, out-Value}
use Rattle.sql_types.specs.declared.value.Value.TheVariants as value
use Rattle.sql_types.specs.declared.value.Value.TheOpen as v
use Rattle.sql_types.specs.declared.fault.FaultKind.TheVariants as fault
use Rattle.sql_types.specs.Fits.{fits, fits_layer, within}
use Rattle.sql_types.specs.Logic.{of_truth}
use Rattle.sql_types.specs.Outcome.{Outcome}
use Rattle.sql_types.specs.Takes.{some_null, strict, count_value, as_int64, as_uint64}
use Rattle.sql_types.proofs.Opens.{fits-opens}
use Rattle.sql_types.proofs.ValueOpens.{fits_at, fits_by}

-- a value fits the type; a fault is no value
abbrev pub Gives : SqlType → Outcome Value → Type 0
Gives type outcome = IfOk outcome (λ x. fits type x ≡ true)

pub null_fits : (type : SqlType) → fits type value.Null ≡ true
null_fits type = fits-opens type value.Null ∙ ap (fits_layer (map-SqlType SqlType (Value → Bool) fits (out-SqlType type))) value.outs-Null

-- a call with a NULL argument gives NULL, which fits each type
strict_by : (type : SqlType) (row : List Value → Outcome Value) (values : List Value) (b : Bool) → Gives type (row values) → Gives type (elim b [ true ↦ Ok value.Null | false ↦ row values ])
strict_by type row values true gives = null_fits type
strict_by type row values false gives = gives

pub strict_gives : (type : SqlType) (row : List Value → Outcome Value) (values : List Value) → Gives type (row values) → Gives type (strict row values)
strict_gives type row values gives = strict_by type row values (some_null values) gives

-- ---- truth values

pub bool_fits : (b : Bool) → fits ty.Bool (value.Bool b) ≡ true
bool_fits b = fits_by ty.Bool (value.Bool b) t.Bool (v.Bool b) ty.outs-Bool (value.outs-Bool b)

pub truth_fits : (o : Option Bool) → fits ty.Bool (of_truth o) ≡ true
truth_fits None = null_fits ty.Bool
truth_fits (Some b) = bool_fits b

-- ---- numbers

pub int_fits : (n : ℤ) → within (negsuc 9223372036854775807) (pos 9223372036854775807) n ≡ true → fits ty.Int64 (value.Int n) ≡ true
int_fits n is = fits_by ty.Int64 (value.Int n) t.Int64 (v.Int n) ty.outs-Int64 (value.outs-Int n) ∙ is

pub uint_fits : (n : ℕ) → nat_lt n 18446744073709551616 ≡ true → fits ty.Uint64 (value.Uint n) ≡ true
uint_fits n is = fits_by ty.Uint64 (value.Uint n) t.Uint64 (v.Uint n) ty.outs-Uint64 (value.outs-Uint n) ∙ is

int_by : (n : ℤ) (b : Bool) → (b ≡ true → within (negsuc 9223372036854775807) (pos 9223372036854775807) n ≡ true) → Gives ty.Int64 (if b then Ok (value.Int n) else Err fault.OutOfRange)
int_by n true is = int_fits n (is refl)
int_by n false is = tt

pub int64_gives : (n : ℤ) → Gives ty.Int64 (as_int64 n)
int64_gives n = int_by n (within (negsuc 9223372036854775807) (pos 9223372036854775807) n) (λ is. is)

count_within : (n : ℕ) → nat_lt n 9223372036854775808 ≡ true → within (negsuc 9223372036854775807) (pos 9223372036854775807) (pos n) ≡ true
count_within n is = let below : n < 9223372036854775808 = ltb-true n 9223372036854775808 is in grind (arith, common_steps)

pub count_gives : (n : ℕ) → Gives ty.Int64 (count_value n)
count_gives n = int_by (pos n) (nat_lt n 9223372036854775808) (count_within n)

uint_by : (n : ℕ) (b : Bool) → nat_lt n 18446744073709551616 ≡ b → Gives ty.Uint64 (if b then Ok (value.Uint n) else Err fault.OutOfRange)
uint_by n true is = uint_fits n is
uint_by n false is = tt

pub uint64_gives : (n : ℤ) → Gives ty.Uint64 (as_uint64 n)
uint64_gives (pos n) = uint_by n (nat_lt n 18446744073709551616) refl
uint64_gives (negsuc n) = tt

-- ---- arrays

pub array_fits : (element : SqlType) (xs : List Value) → list_all (fits element) xs ≡ true → fits (ty.Array element) (value.Array xs) ≡ true
array_fits element xs all = fits_by (ty.Array element) (value.Array xs) (t.Array element) (v.Array xs) (ty.outs-Array element) (value.outs-Array xs) ∙ all

-- ---- what a value that fits says

-- the form of a value that fits a type
pub at_form : (type : SqlType) (form : t.SqlType-F SqlType) (x : Value) → out-SqlType type ≡ form → fits type x ≡ true → fits_at form (out-Value x) ≡ true
at_form type form x is fit = sym (fits_by type x form (out-Value x) is refl) ∙ fit
