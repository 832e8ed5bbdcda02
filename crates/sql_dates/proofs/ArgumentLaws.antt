-- A DATE that fits a type is a day that DATE has.
use Rattle.std.proofs.Common.{◌≡◌, ℕ, zero, suc, Bool, true, false, ◌&&◌, List, [], ◌∷◌, refl, sym, ap, ◌∙◌}
use Rattle.std.specs.Prelude.{IfSome}
use Rattle.sql_types.specs.declared.sql_type.SqlType.{SqlType, map-SqlType, out-SqlType}
use Rattle.sql_types.specs.declared.sql_type.SqlType.TheOpen as t
use Rattle.sql_types.specs.declared.value.Value.{Value, out-Value, out-roll-Value}
use Rattle.sql_types.specs.declared.value.Value.TheVariants.{Null, rolls-Null}
use Rattle.sql_types.specs.declared.value.Value.TheOpen as v
use Rattle.sql_types.specs.Fits.{fits, fits_layer, is_day}
use Rattle.sql_types.proofs.Opens.{fits-opens}
use Rattle.sql_types.specs.Takes.{fits_types}
use Rattle.sql_dates.specs.Arguments.{date_form, date_at, HasDates}

day-layer : (ty : t.SqlType-F (Value → Bool)) (x : v.Value-F Value) → fits_layer ty x ≡ true → IfSome (date_form x) (λ day. is_day day ≡ true)
day-layer t.Date (v.Date day) is = is
day-layer t.Bool (v.Date day) is = cc
day-layer t.Int32 (v.Date day) is = cc
day-layer t.Int64 (v.Date day) is = cc
day-layer t.Uint32 (v.Date day) is = cc
day-layer t.Uint64 (v.Date day) is = cc
day-layer t.Text (v.Date day) is = cc
day-layer t.Bytes (v.Date day) is = cc
day-layer (t.Array e) (v.Date day) is = cc
day-layer (t.Struct fs) (v.Date day) is = cc
day-layer ty v.Null is = tt
day-layer ty (v.Bool b) is = tt
day-layer ty (v.Int n) is = tt
day-layer ty (v.Uint n) is = tt
day-layer ty (v.Text bytes) is = tt
day-layer ty (v.Bytes bytes) is = tt
day-layer ty (v.Array xs) is = tt
day-layer ty (v.Struct xs) is = tt

day-fits : (ty : SqlType) (x : Value) → fits ty x ≡ true → IfSome (date_form (out-Value x)) (λ day. is_day day ≡ true)
day-fits ty x is = day-layer (map-SqlType SqlType (Value → Bool) fits (out-SqlType ty)) (out-Value x) (sym (fits-opens ty x) ∙ is)

both : (a b : Bool) → (a && b) ≡ true → (a ≡ true) × (b ≡ true)
both true true is = (refl, refl)
both true false is = cc
both false b is = cc

no-date : IfSome (date_form (out-Value Null)) (λ day. is_day day ≡ true)
no-date = let e : out-Value Null ≡ v.Null = ap out-Value (sym rolls-Null) ∙ out-roll-Value v.Null in rw e tt

each-fits : (types : List SqlType) (values : List Value) (place : ℕ) → fits_types types values ≡ true → IfSome (date_at values place) (λ day. is_day day ≡ true)
each-fits [] [] place is = no-date
each-fits [] (x ∷ xs) place is = cc
each-fits (ty ∷ types) [] place is = cc
each-fits (ty ∷ types) (x ∷ xs) zero is = day-fits ty x (both (fits ty x) (fits_types types xs) is).0
each-fits (ty ∷ types) (x ∷ xs) (suc place) is = each-fits types xs place (both (fits ty x) (fits_types types xs) is).1

-- values that fit their types have only days of DATE
pub has_dates : (types : List SqlType) (values : List Value) → fits_types types values ≡ true → HasDates values
has_dates types values is = record { each = λ place. each-fits types values place is }
