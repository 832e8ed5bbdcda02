-- What fits a type, one level of the type at a time.
use Rattle.std.proofs.Common.{◌≡◌, Bool, ap, sym, ◌∙◌}
use Rattle.sql_types.specs.declared.sql_type.SqlType.{SqlType, map-SqlType, out-SqlType, roll-out-SqlType, fold-SqlType, fold-roll-SqlType}
use Rattle.sql_types.specs.declared.sql_type.SqlType.TheOpen as t
use Rattle.sql_types.specs.declared.value.Value.{Value, out-Value}
use Rattle.sql_types.specs.Fits.{fits, fits_layer}

-- what fits a type, by what fits the parts of the type
abbrev fits_step : t.SqlType-F (Value → Bool) → Value → Bool
fits_step ty x = fits_layer ty (out-Value x)

pub fits-opens : (ty : SqlType) (x : Value) → fits ty x ≡ fits_layer (map-SqlType SqlType (Value → Bool) fits (out-SqlType ty)) (out-Value x)
unfolding fits
fits-opens ty x =
    ap (λ (f : Value → Bool). f x)
    (ap (fold-SqlType (Value → Bool) fits_step) (sym (roll-out-SqlType ty)) ∙ fold-roll-SqlType (Value → Bool) fits_step (out-SqlType ty))
