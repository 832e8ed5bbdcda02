-- Numbers of the two types and NULL fit them.
use Rattle.std.proofs.Common.{◌≡◌, ℕ, ◌<◌, ◌^◌, ℤ, Bool, true, ap, ◌∙◌, arith, FitsSigned, w64}
use Rattle.std.specs.Prelude.{nat_lt}
use Rattle.std.proofs.lemmas.Grind.{common_steps}
use Rattle.sql_types.specs.declared.sql_type.SqlType.{SqlType, out-SqlType, map-SqlType}
use Rattle.sql_types.specs.declared.sql_type.SqlType.TheVariants as types
use Rattle.sql_types.specs.declared.sql_type.SqlType.TheOpen as t
use Rattle.sql_types.specs.declared.value.Value.{Value}
use Rattle.sql_types.specs.declared.value.Value.TheVariants as value
use Rattle.sql_types.specs.declared.value.Value.TheOpen as v
use Rattle.sql_types.specs.Fits.{fits, fits_layer}
use Rattle.sql_types.proofs.Opens.{fits-opens}
use Rattle.sql_types.proofs.ValueOpens.{fits_by}
use Rattle.sql_numbers.proofs.NumberLaws.{fits_within}

pub int_fits : (z : ℤ) → FitsSigned w64 z → fits types.Int64 (value.Int z) ≡ true
int_fits z range = fits_by types.Int64 (value.Int z) t.Int64 (v.Int z) types.outs-Int64 (value.outs-Int z) ∙ fits_within z range

within : (n : ℕ) → n < 2 ^ 64 → nat_lt n 18446744073709551616 ≡ true
within n range = grind (arith, common_steps)

pub uint_fits : (n : ℕ) → n < 2 ^ 64 → fits types.Uint64 (value.Uint n) ≡ true
uint_fits n range = fits_by types.Uint64 (value.Uint n) t.Uint64 (v.Uint n) types.outs-Uint64 (value.outs-Uint n) ∙ within n range

pub null_fits : (ty : SqlType) → fits ty value.Null ≡ true
null_fits ty = fits-opens ty value.Null ∙ ap (fits_layer (map-SqlType SqlType (Value → Bool) fits (out-SqlType ty))) value.outs-Null
