-- One level of the supertype's definition, the parts as they stand.
use Rattle.std.proofs.Common.{◌≡◌, ℕ, suc, Bool, true, false, List, [], ◌∷◌, ◌++◌, map, length, Option, Some, None, if◌then◌else◌, option_map, refl, ap, sym, ◌∙◌}
use Rattle.std.specs.List.{list_all}
use Rattle.sql_types.specs.declared.sql_type.Named.{Named}
use Rattle.sql_types.specs.declared.sql_type.SqlType.{SqlType, map-SqlType, out-SqlType}
use Rattle.sql_types.specs.declared.sql_type.SqlType.TheOpen as t
use Rattle.sql_types.specs.declared.sql_type.SqlType.TheShapes as shapes
use Rattle.sql_types.specs.declared.sql_type.SqlType.TheVariants as ty
use Rattle.sql_coerce.specs.Supertypes.{Member, Meet, meet, meet_layer, meet_fields, fields_meet, before_fields, field_at, is_struct_of, shared_type, plain_supertype}
use Rattle.sql_coerce.proofs.Opens.{meet-opens}

abbrev pub meet_at : t.SqlType-F SqlType → List Member → Option SqlType
meet_at (t.Struct fields) list =
    if list_all (λ m. is_struct_of (length fields) (out-SqlType m.ty)) list then option_map ty.Struct (fields_meet 0 fields list) else None
meet_at (t.Array element) list = shared_type (ty.Array element) list
meet_at _ list = plain_supertype list

abbrev Part : Type 0
Part = SqlType × Meet

abbrev parts : List (Named SqlType) → List (Named Part)
parts = map (shapes.former-SqlType-Struct-0-at-2.map SqlType Part (λ part. (part, meet part)))

fields-meet : (place : ℕ) (fs : List (Named SqlType)) (list : List Member) → meet_fields place (parts fs) list ≡ fields_meet place fs list
fields-meet place [] list = refl
fields-meet place (f ∷ fs) list = ap (before_fields f.name (meet f.ty (map (field_at place) list))) (fields-meet (suc place) fs list)

parts-length : (fs : List (Named SqlType)) → length (parts fs) ≡ length fs
parts-length [] = refl
parts-length (f ∷ fs) = ap suc (parts-length fs)

struct-moved : (fs : List (Named SqlType)) (list : List Member) → meet_layer (t.Struct (parts fs)) list ≡ meet_at (t.Struct fs) list
struct-moved fs list = rw (parts-length fs, fields-meet 0 fs list) refl

moved : (x : t.SqlType-F SqlType) (list : List Member) → meet_layer (map-SqlType SqlType Part (λ part. (part, meet part)) x) list ≡ meet_at x list
moved (t.Struct fs) list = struct-moved fs list
moved t.Bool list = refl
moved _ list = refl

pub meet_level : (first : SqlType) (list : List Member) → meet first list ≡ meet_at (out-SqlType first) list
meet_level first list = meet-opens first list ∙ moved (out-SqlType first) list

abbrev all_structs : ℕ → List Member → Bool
all_structs count list = list_all (λ m. is_struct_of count (out-SqlType m.ty)) list

struct-level : (first : SqlType) (fs : List (Named SqlType)) (list : List Member) → first ≡ ty.Struct fs
    → meet first list ≡ (if all_structs (length fs) list then option_map ty.Struct (fields_meet 0 fs list) else None)
struct-level first fs list is = meet_level first list ∙ rw (is, ty.outs-Struct fs) refl

pub apart : (first : SqlType) (fs : List (Named SqlType)) (list : List Member) (count : ℕ) → first ≡ ty.Struct fs → count ≡ length fs → all_structs count list ≡ false → None ≡ meet first list
apart first fs list count is whole test = let all : all_structs (length fs) list ≡ false = ap (λ n. all_structs n list) (sym whole) ∙ test in sym (struct-level first fs list is ∙ rw all refl)

pub together : (first : SqlType) (fs : List (Named SqlType)) (list : List Member) (count : ℕ) (o : Option (List (Named SqlType))) → first ≡ ty.Struct fs → count ≡ length fs → all_structs count list ≡ true
    → o ≡ fields_meet 0 fs list → option_map ty.Struct o ≡ meet first list
together first fs list count o is whole test met =
    let all : all_structs (length fs) list ≡ true = ap (λ n. all_structs n list) (sym whole) ∙ test in
    ap (option_map ty.Struct) met ∙ sym (struct-level first fs list is ∙ rw all refl)

pub array_level : (first element : SqlType) (list : List Member) → first ≡ ty.Array element → shared_type first list ≡ meet first list
array_level first element list is = sym (meet_level first list ∙ rw (is, ty.outs-Array element) refl)

-- ---- the fields so far

abbrev pub behind_met : List (Named SqlType) → Option (List (Named SqlType)) → Option (List (Named SqlType))
behind_met met (Some more) = Some (met ++ more)
behind_met met None = None
