-- One level of the casts' definitions, the parts as they stand.
use Rattle.std.proofs.Common.{◌≡◌, Bool, ◌&&◌, List, [], ◌∷◌, map, refl, ap, ◌∙◌}
use Rattle.sql_types.specs.Outcome.{Outcome}
use Rattle.sql_types.specs.declared.sql_type.Named.{Named}
use Rattle.sql_types.specs.declared.sql_type.SqlType.{SqlType, map-SqlType, out-SqlType}
use Rattle.sql_types.specs.declared.sql_type.SqlType.TheOpen as t
use Rattle.sql_types.specs.declared.sql_type.SqlType.TheShapes as shapes
use Rattle.sql_types.specs.declared.sql_type.SqlType.TheVariants as ty
use Rattle.sql_types.specs.declared.value.Value.{Value, out-Value}
use Rattle.sql_types.specs.declared.value.Value.TheOpen as v
use Rattle.sql_types.specs.SameType.{same_type}
use Rattle.sql_coerce.specs.Casts.{castable, castable_layer, castable_fields, fields_castable, plain_pair, family_layer, converted, converted_layer, converted_fields, fields_converted, before_values, struct_value}
use Rattle.sql_coerce.proofs.Opens.{castable-opens, converted-opens}

-- ---- the pairs

abbrev pub castable_at : t.SqlType-F SqlType → t.SqlType-F SqlType → Bool
castable_at (t.Struct froms) (t.Struct tos) = fields_castable froms tos
castable_at (t.Array from) (t.Array to) = same_type from to
castable_at from to = plain_pair (family_layer from) (family_layer to)

abbrev Part : Type 0
Part = SqlType × (SqlType → Bool)

fields-castable : (fs gs : List (Named SqlType)) → castable_fields (map (shapes.former-SqlType-Struct-0-at-2.map SqlType Part (λ part. (part, castable part))) fs) gs ≡ fields_castable fs gs
fields-castable [] [] = refl
fields-castable [] (g ∷ gs) = refl
fields-castable (f ∷ fs) [] = refl
fields-castable (f ∷ fs) (g ∷ gs) = ap (λ b. castable f.ty g.ty && b) (fields-castable fs gs)

castable-moved : (x y : t.SqlType-F SqlType) → castable_layer (map-SqlType SqlType Part (λ part. (part, castable part)) x) y ≡ castable_at x y
castable-moved (t.Struct fs) (t.Struct gs) = fields-castable fs gs
castable-moved (t.Struct fs) _ = refl
castable-moved t.Bool t.Bool = refl
castable-moved _ _ = refl

pub castable_level : (x y : SqlType) → castable x y ≡ castable_at (out-SqlType x) (out-SqlType y)
castable_level x y = castable-opens x y ∙ castable-moved (out-SqlType x) (out-SqlType y)

pub castable_arrays : (x y : SqlType) → castable (ty.Array x) (ty.Array y) ≡ same_type x y
castable_arrays x y = castable_level (ty.Array x) (ty.Array y) ∙ rw (ty.outs-Array x, ty.outs-Array y) refl

pub castable_structs : (fs gs : List (Named SqlType)) → castable (ty.Struct fs) (ty.Struct gs) ≡ fields_castable fs gs
castable_structs fs gs = castable_level (ty.Struct fs) (ty.Struct gs) ∙ rw (ty.outs-Struct fs, ty.outs-Struct gs) refl

-- ---- the values

abbrev pub converted_at : t.SqlType-F SqlType → t.SqlType-F SqlType → v.Value-F Value → Outcome Value
converted_at (t.Struct froms) (t.Struct tos) (v.Struct xs) = struct_value (fields_converted froms tos xs)
converted_at from to x = converted_layer (map-SqlType SqlType (SqlType → Value → Outcome Value) converted from) to x

fields-converted : (fs gs : List (Named SqlType)) (xs : List Value) → converted_fields (map (shapes.former-SqlType-Struct-0-at-2.map SqlType (SqlType → Value → Outcome Value) converted) fs) gs xs ≡ fields_converted fs gs xs
fields-converted [] [] [] = refl
fields-converted [] [] (x ∷ xs) = refl
fields-converted [] (g ∷ gs) [] = refl
fields-converted [] (g ∷ gs) (x ∷ xs) = refl
fields-converted (f ∷ fs) [] [] = refl
fields-converted (f ∷ fs) [] (x ∷ xs) = refl
fields-converted (f ∷ fs) (g ∷ gs) [] = refl
fields-converted (f ∷ fs) (g ∷ gs) (x ∷ xs) = ap (before_values (converted f.ty g.ty x)) (fields-converted fs gs xs)

converted-moved : (x y : t.SqlType-F SqlType) (a : v.Value-F Value) → converted_layer (map-SqlType SqlType (SqlType → Value → Outcome Value) converted x) y a ≡ converted_at x y a
converted-moved (t.Struct fs) (t.Struct gs) (v.Struct xs) = ap struct_value (fields-converted fs gs xs)
converted-moved (t.Struct fs) (t.Struct gs) _ = refl
converted-moved (t.Struct fs) _ _ = refl
converted-moved t.Bool _ _ = refl
converted-moved _ _ _ = refl

pub converted_level : (from to : SqlType) (x : Value) → converted from to x ≡ converted_at (out-SqlType from) (out-SqlType to) (out-Value x)
converted_level from to x = converted-opens from to x ∙ converted-moved (out-SqlType from) (out-SqlType to) (out-Value x)
