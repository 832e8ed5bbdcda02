-- What fits a type, when values are equal, one level at a time.
use Rattle.std.proofs.Common.{◌≡◌, Bool, true, false, ◌&&◌, List, [], ◌∷◌, map, refl, ap, sym, ◌∙◌, Option}
use Rattle.std.specs.List.{list_all}
use Rattle.sql_types.specs.declared.sql_type.Named.{Named}
use Rattle.sql_types.specs.declared.sql_type.SqlType.{SqlType, map-SqlType, out-SqlType}
use Rattle.sql_types.specs.declared.sql_type.SqlType.TheOpen as t
use Rattle.sql_types.specs.declared.sql_type.SqlType.TheShapes as shapes
use Rattle.sql_types.specs.declared.value.Value.{Value, map-Value, out-Value, roll-out-Value, fold-roll-Value}
use Rattle.sql_types.specs.declared.value.Value.TheOpen as v
use Rattle.std.specs.Bool.{◌==◌, beq}
use Rattle.std.specs.Ordering.{int_eq}
use Rattle.std.specs.Str.{bytes_eq}
use Rattle.sql_types.specs.Same.{equal, equal_layer, equal_fields}
use Rattle.sql_types.specs.SameValue.{same_value, same_values, same_layer, same_parts}
use Rattle.sql_types.specs.Fits.{fits, fits_layer, fits_fields, fits_row}
use Rattle.sql_types.proofs.Opens.{fits-opens}

-- the parts of the type stand as they are
abbrev pub fits_at : t.SqlType-F SqlType → v.Value-F Value → Bool
fits_at (t.Array element) (v.Array xs) = list_all (fits element) xs
fits_at (t.Struct fs) (v.Struct xs) = fits_row fs xs
fits_at ty x = fits_layer (map-SqlType SqlType (Value → Bool) fits ty) x

fields_fit : (fs : List (Named SqlType)) (xs : List Value) → fits_fields (map (shapes.former-SqlType-Struct-0-at-2.map SqlType (Value → Bool) fits) fs) xs ≡ fits_row fs xs
fields_fit [] [] = refl
fields_fit [] (x ∷ xs) = refl
fields_fit (f ∷ fs) [] = refl
fields_fit (f ∷ fs) (x ∷ xs) = ap (λ b. fits f.ty x && b) (fields_fit fs xs)

moved : (ty : t.SqlType-F SqlType) (x : v.Value-F Value) → fits_layer (map-SqlType SqlType (Value → Bool) fits ty) x ≡ fits_at ty x
moved (t.Struct fs) (v.Struct xs) = fields_fit fs xs
moved (t.Array element) (v.Array xs) = refl
moved _ _ = refl

pub fits_opens : (ty : SqlType) (x : Value) → fits ty x ≡ fits_at (out-SqlType ty) (out-Value x)
fits_opens ty x = fits-opens ty x ∙ moved (out-SqlType ty) (out-Value x)

-- at a type and a value whose forms are known
pub fits_by : (ty : SqlType) (x : Value) (form : t.SqlType-F SqlType) (parts : v.Value-F Value) → out-SqlType ty ≡ form → out-Value x ≡ parts → fits ty x ≡ fits_at form parts
fits_by ty x form parts e f = fits_opens ty x ∙ ap (λ z. fits_at z (out-Value x)) e ∙ ap (fits_at form) f

-- ---- the same

-- the parts of the left value stand as they are
abbrev pub same_at : v.Value-F Value → v.Value-F Value → Bool
same_at v.Null v.Null = true
same_at (v.Bool a) (v.Bool b) = beq a b
same_at (v.Int a) (v.Int b) = int_eq a b
same_at (v.Uint a) (v.Uint b) = a == b
same_at (v.Text a) (v.Text b) = bytes_eq a b
same_at (v.Bytes a) (v.Bytes b) = bytes_eq a b
same_at (v.Date a) (v.Date b) = int_eq a b
same_at (v.Array xs) (v.Array ys) = same_values xs ys
same_at (v.Struct xs) (v.Struct ys) = same_values xs ys
same_at _ _ = false

abbrev same_step : v.Value-F (Value → Bool) → Value → Bool
same_step x y = same_layer x (out-Value y)

parts_same : (xs ys : List Value) → same_parts (map same_value xs) ys ≡ same_values xs ys
parts_same [] [] = refl
parts_same [] (y ∷ ys) = refl
parts_same (x ∷ xs) [] = refl
parts_same (x ∷ xs) (y ∷ ys) = ap (λ b. same_value x y && b) (parts_same xs ys)

same_moved : (x y : v.Value-F Value) → same_layer (map-Value Value (Value → Bool) same_value x) y ≡ same_at x y
same_moved (v.Array xs) (v.Array ys) = parts_same xs ys
same_moved (v.Struct xs) (v.Struct ys) = parts_same xs ys
same_moved v.Null v.Null = refl
same_moved _ _ = refl

pub same_opens : (x y : Value) → same_value x y ≡ same_at (out-Value x) (out-Value y)
unfolding same_value
same_opens x y =
    ap (λ (f : Value → Bool). f y) (ap same_value (sym (roll-out-Value x)) ∙ fold-roll-Value (Value → Bool) same_step (out-Value x))
    ∙ same_moved (out-Value x) (out-Value y)

pub same_by : (x y : Value) (a b : v.Value-F Value) → out-Value x ≡ a → out-Value y ≡ b → same_value x y ≡ same_at a b
same_by x y a b e f = same_opens x y ∙ ap (λ z. same_at z (out-Value y)) e ∙ ap (same_at a) f

-- ---- equal

-- the parts of the left value stand as they are
abbrev pub equal_at : v.Value-F Value → v.Value-F Value → Option Bool
equal_at (v.Struct xs) (v.Struct ys) = equal_fields (map equal xs) ys
equal_at x y = equal_layer (map-Value Value (Value → Option Bool) equal x) y

abbrev equal_step : v.Value-F (Value → Option Bool) → Value → Option Bool
equal_step x y = equal_layer x (out-Value y)

equal_moved : (x y : v.Value-F Value) → equal_layer (map-Value Value (Value → Option Bool) equal x) y ≡ equal_at x y
equal_moved (v.Struct xs) (v.Struct ys) = refl
equal_moved _ _ = refl

pub equal_opens : (x y : Value) → equal x y ≡ equal_at (out-Value x) (out-Value y)
unfolding equal
equal_opens x y =
    ap (λ (f : Value → Option Bool). f y) (ap equal (sym (roll-out-Value x)) ∙ fold-roll-Value (Value → Option Bool) equal_step (out-Value x))
    ∙ equal_moved (out-Value x) (out-Value y)

pub equal_by : (x y : Value) (a b : v.Value-F Value) → out-Value x ≡ a → out-Value y ≡ b → equal x y ≡ equal_at a b
equal_by x y a b e f = equal_opens x y ∙ ap (λ z. equal_at z (out-Value y)) e ∙ ap (equal_at a) f
