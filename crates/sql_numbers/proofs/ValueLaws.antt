-- What values that fit a type say.
use Rattle.std.proofs.Common.{◌≡◌, ℕ, Bool, true, refl, ap, sym, ◌∙◌}
use Rattle.std.specs.Prelude.{ℤ, pos}
use Rattle.sql_types.specs.declared.sql_type.SqlType.{SqlType, out-SqlType, map-SqlType, out-roll-SqlType}
use Rattle.sql_types.specs.declared.sql_type.SqlType.TheVariants as types
use Rattle.sql_types.specs.declared.sql_type.SqlType.TheOpen as t
use Rattle.sql_types.specs.declared.value.Value.{Value, roll-Value, out-Value, roll-out-Value}
use Rattle.sql_types.specs.declared.value.Value.TheVariants as value
use Rattle.sql_types.specs.declared.value.Value.TheOpen as v
use Rattle.sql_types.specs.Fits.{fits, fits_layer}
use Rattle.sql_types.specs.Takes.{number, number_layer}
use Rattle.sql_types.proofs.Opens.{fits-opens}

-- what a layer of a type takes
abbrev Taken : t.SqlType-F SqlType → Value → Bool
Taken layer x = fits_layer (map-SqlType SqlType (Value → Bool) fits layer) (out-Value x)

taken : (ty : SqlType) (layer : t.SqlType-F SqlType) (x : Value) → out-SqlType ty ≡ layer → fits ty x ≡ true → Taken layer x ≡ true
taken ty layer x is fit = ap (λ l. Taken l x) (sym is) ∙ sym (fits-opens ty x) ∙ fit

out-Int64 : out-SqlType types.Int64 ≡ t.Int64
out-Int64 = ap out-SqlType (sym types.rolls-Int64) ∙ out-roll-SqlType t.Int64

out-Uint64 : out-SqlType types.Uint64 ≡ t.Uint64
out-Uint64 = ap out-SqlType (sym types.rolls-Uint64) ∙ out-roll-SqlType t.Uint64

rolled : (x : Value) (y : v.Value-F Value) → out-Value x ≡ y → x ≡ roll-Value y
rolled x y is = sym (roll-out-Value x) ∙ ap roll-Value is

-- a value of INT64 that isn't a number is NULL, which counts as 0
no-int : (x : Value) (y : v.Value-F Value) → out-Value x ≡ y → fits_layer t.Int64 y ≡ true → ((n : ℤ) → x ≡ value.Int n → ⊥) → pos 0 ≡ number_layer y
no-int x v.Null is fit other = refl
no-int x (v.Bool b) is fit other = cc
no-int x (v.Int n) is fit other = absurd (other n (rolled x (v.Int n) is ∙ value.rolls-Int n))
no-int x (v.Uint n) is fit other = cc
no-int x (v.Text text) is fit other = cc
no-int x (v.Bytes bytes) is fit other = cc
no-int x (v.Date day) is fit other = cc
no-int x (v.Array xs) is fit other = cc
no-int x (v.Struct xs) is fit other = cc

pub null-int : (x : Value) → fits types.Int64 x ≡ true → ((n : ℤ) → x ≡ value.Int n → ⊥) → pos 0 ≡ number x
null-int x fit other = no-int x (out-Value x) refl (taken types.Int64 t.Int64 x out-Int64 fit) other

no-uint : (x : Value) (y : v.Value-F Value) → out-Value x ≡ y → fits_layer t.Uint64 y ≡ true → ((n : ℕ) → x ≡ value.Uint n → ⊥) → pos 0 ≡ number_layer y
no-uint x v.Null is fit other = refl
no-uint x (v.Bool b) is fit other = cc
no-uint x (v.Int n) is fit other = cc
no-uint x (v.Uint n) is fit other = absurd (other n (rolled x (v.Uint n) is ∙ value.rolls-Uint n))
no-uint x (v.Text text) is fit other = cc
no-uint x (v.Bytes bytes) is fit other = cc
no-uint x (v.Date day) is fit other = cc
no-uint x (v.Array xs) is fit other = cc
no-uint x (v.Struct xs) is fit other = cc

pub null-uint : (x : Value) → fits types.Uint64 x ≡ true → ((n : ℕ) → x ≡ value.Uint n → ⊥) → pos 0 ≡ number x
null-uint x fit other = no-uint x (out-Value x) refl (taken types.Uint64 t.Uint64 x out-Uint64 fit) other
