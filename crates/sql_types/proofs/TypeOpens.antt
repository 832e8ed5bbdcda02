-- Types that compare, and types that are the same, one level at a time.
use Rattle.std.proofs.Common.{◌≡◌, Bool, true, false, ◌&&◌, List, [], ◌∷◌, map, refl, ap, sym, ◌∙◌}
use Rattle.sql_types.specs.declared.sql_type.Named.{Named}
use Rattle.sql_types.specs.declared.sql_type.SqlType.{SqlType, map-SqlType, out-SqlType, roll-out-SqlType, fold-roll-SqlType}
use Rattle.sql_types.specs.declared.sql_type.SqlType.TheOpen as t
use Rattle.sql_types.specs.declared.sql_type.SqlType.TheShapes as shapes
use Rattle.sql_types.specs.Comparable.{comparable, comparable_layer, all_fields, all_comparable}
use Rattle.sql_types.specs.SameType.{same_type, same_type_layer, same_label, same_fields, same_fields_of}

-- a type is comparable by its parts
abbrev pub comparable_at : t.SqlType-F SqlType → Bool
comparable_at (t.Array element) = false
comparable_at (t.Struct fields) = all_comparable fields
comparable_at _ = true

fields_compare : (fs : List (Named SqlType)) → all_fields (map (shapes.former-SqlType-Struct-0-at-2.map SqlType Bool comparable) fs) ≡ all_comparable fs
fields_compare [] = refl
fields_compare (f ∷ fs) = ap (λ b. comparable f.ty && b) (fields_compare fs)

moved : (x : t.SqlType-F SqlType) → comparable_layer (map-SqlType SqlType Bool comparable x) ≡ comparable_at x
moved (t.Struct fs) = fields_compare fs
moved t.Bool = refl
moved _ = refl

pub comparable_opens : (ty : SqlType) → comparable ty ≡ comparable_at (out-SqlType ty)
unfolding comparable
comparable_opens ty = ap comparable (sym (roll-out-SqlType ty)) ∙ fold-roll-SqlType Bool comparable_layer (out-SqlType ty) ∙ moved (out-SqlType ty)

-- the parts of the left type stand as they are
abbrev pub same_at : t.SqlType-F SqlType → t.SqlType-F SqlType → Bool
same_at t.Bool t.Bool = true
same_at t.Int32 t.Int32 = true
same_at t.Int64 t.Int64 = true
same_at t.Uint32 t.Uint32 = true
same_at t.Uint64 t.Uint64 = true
same_at t.Text t.Text = true
same_at t.Bytes t.Bytes = true
same_at t.Date t.Date = true
same_at (t.Array element) (t.Array other) = same_type element other
same_at (t.Struct fs) (t.Struct gs) = same_fields_of fs gs
same_at _ _ = false

abbrev step : t.SqlType-F (SqlType → Bool) → SqlType → Bool
step x y = same_type_layer x (out-SqlType y)

fields_same : (fs gs : List (Named SqlType)) → same_fields (map (shapes.former-SqlType-Struct-0-at-2.map SqlType (SqlType → Bool) same_type) fs) gs ≡ same_fields_of fs gs
fields_same [] [] = refl
fields_same [] (g ∷ gs) = refl
fields_same (f ∷ fs) [] = refl
fields_same (f ∷ fs) (g ∷ gs) = ap (λ b. same_label f.name g.name && (same_type f.ty g.ty && b)) (fields_same fs gs)

same_moved : (x y : t.SqlType-F SqlType) → same_type_layer (map-SqlType SqlType (SqlType → Bool) same_type x) y ≡ same_at x y
same_moved (t.Struct fs) (t.Struct gs) = fields_same fs gs
same_moved t.Bool t.Bool = refl
same_moved _ _ = refl

pub same_opens : (x y : SqlType) → same_type x y ≡ same_at (out-SqlType x) (out-SqlType y)
unfolding same_type
same_opens x y =
    ap (λ (f : SqlType → Bool). f y) (ap same_type (sym (roll-out-SqlType x)) ∙ fold-roll-SqlType (SqlType → Bool) step (out-SqlType x))
    ∙ same_moved (out-SqlType x) (out-SqlType y)
