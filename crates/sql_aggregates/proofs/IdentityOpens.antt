-- The total order of values, one level at a time.
use Rattle.std.proofs.Common.{◌≡◌, List, [], ◌∷◌, map, refl, ap, sym, ◌∙◌}
use Rattle.std.specs.declared.cmp.Ordering.{Ordering}
use Rattle.std.specs.Ordering.{nat_cmp, ordering_then}
use Rattle.sql_types.specs.declared.value.Value.{Value, map-Value, out-Value, roll-out-Value, fold-roll-Value}
use Rattle.sql_types.specs.declared.value.Value.TheOpen as v
use Rattle.sql_aggregates.specs.Identity.{kind, parts_order, identity_layer, identity_order, identity_order_of_rows, order_within}

-- the parts of the left value stand as they are
abbrev pub order_at : v.Value-F Value → v.Value-F Value → Ordering
order_at x y = ordering_then (nat_cmp (kind x) (kind y)) (order_within x y)

parts_ordered : (xs ys : List Value) → parts_order (map identity_order xs) ys ≡ identity_order_of_rows xs ys
parts_ordered [] [] = refl
parts_ordered [] (y ∷ ys) = refl
parts_ordered (x ∷ xs) [] = refl
parts_ordered (x ∷ xs) (y ∷ ys) = ap (ordering_then (identity_order x y)) (parts_ordered xs ys)

moved : (x y : v.Value-F Value) → identity_layer (map-Value Value (Value → Ordering) identity_order x) y ≡ order_at x y
moved (v.Array xs) (v.Array ys) = parts_ordered xs ys
moved (v.Struct xs) (v.Struct ys) = parts_ordered xs ys
moved v.Null v.Null = refl
moved (v.Bool a) (v.Bool b) = refl
moved (v.Int a) (v.Int b) = refl
moved (v.Uint a) (v.Uint b) = refl
moved (v.Text a) (v.Text b) = refl
moved (v.Bytes a) (v.Bytes b) = refl
moved (v.Date a) (v.Date b) = refl
moved _ _ = refl

abbrev step : v.Value-F (Value → Ordering) → Value → Ordering
step x y = identity_layer x (out-Value y)

pub identity_opens : (x y : Value) → identity_order x y ≡ order_at (out-Value x) (out-Value y)
unfolding identity_order
identity_opens x y =
    ap (λ (f : Value → Ordering). f y) (ap identity_order (sym (roll-out-Value x)) ∙ fold-roll-Value (Value → Ordering) step (out-Value x))
    ∙ moved (out-Value x) (out-Value y)
