-- Types that the test calls the same are one type.
use Rattle.std.proofs.Common.{◌≡◌, ℕ, true, ◌&&◌, List, [], ◌∷◌, Option, None, Some, refl, ap, sym, ◌∙◌}
use Rattle.std.proofs.lemmas.Slice.Eq.{bytes_eq-Decides}
use Rattle.sql_types.specs.declared.sql_type.Named.{Named}
use Rattle.sql_types.specs.declared.sql_type.SqlType.{SqlType, out-SqlType, roll-SqlType, roll-out-SqlType, out-roll-SqlType}
use Rattle.sql_types.specs.declared.sql_type.SqlType.TheOpen as t
use Rattle.sql_types.specs.SameType.{same_type, same_label, same_fields_of}
use Rattle.sql_types.proofs.TypeOpens.{same_at, same_opens}
use Rattle.sql_coerce.proofs.FitLaws.{With, bare, bare_fields, by_parts}
use Rattle.resolved_ast.proofs.FitLaws.{first_of, second_of}

abbrev Told : SqlType → Type 0
Told ty = (other : SqlType) → same_type ty other ≡ true → ty ≡ other

labels_told : (l m : Option (List ℕ)) → same_label l m ≡ true → l ≡ m
labels_told None None same = refl
labels_told (Some l) (Some m) same = ap Some ((bytes_eq-Decides l m).0 same)
labels_told None (Some m) same = cc
labels_told (Some l) None same = cc

fields_told : (fs : List (Named (With Told))) (gs : List (Named SqlType)) → same_fields_of (bare_fields Told fs) gs ≡ true → bare_fields Told fs ≡ gs
fields_told [] [] same = refl
fields_told [] (g ∷ gs) same = cc
fields_told (f ∷ fs) [] same = cc
fields_told (f ∷ fs) (g ∷ gs) same =
    let rest = second_of (same_label f.name g.name) (same_type f.ty.0 g.ty && same_fields_of (bare_fields Told fs) gs) same in
    let name = labels_told f.name g.name (first_of (same_label f.name g.name) (same_type f.ty.0 g.ty && same_fields_of (bare_fields Told fs) gs) same) in
    let ty = f.ty.1 g.ty (first_of (same_type f.ty.0 g.ty) (same_fields_of (bare_fields Told fs) gs) rest) in
    let more = fields_told fs gs (second_of (same_type f.ty.0 g.ty) (same_fields_of (bare_fields Told fs) gs) rest) in
    λ i. record { name = name i; ty = ty i } ∷ more i

parts_told : (parts : t.SqlType-F (With Told)) (m : t.SqlType-F SqlType) → same_at (bare Told parts) m ≡ true → bare Told parts ≡ m
parts_told (t.Array e) (t.Array f) same = ap t.Array (e.1 f same)
parts_told (t.Struct fs) (t.Struct gs) same = ap t.Struct (fields_told fs gs same)
parts_told t.Bool t.Bool same = refl
parts_told t.Int32 t.Int32 same = refl
parts_told t.Int64 t.Int64 same = refl
parts_told t.Uint32 t.Uint32 same = refl
parts_told t.Uint64 t.Uint64 same = refl
parts_told t.Text t.Text same = refl
parts_told t.Bytes t.Bytes same = refl
parts_told t.Date t.Date same = refl
parts_told _ _ same = cc

step : (parts : t.SqlType-F (With Told)) → Told (roll-SqlType (bare Told parts))
step parts other same =
    ap roll-SqlType (parts_told parts (out-SqlType other)
    (ap (λ z. same_at z (out-SqlType other)) (sym (out-roll-SqlType (bare Told parts))) ∙ sym (same_opens (roll-SqlType (bare Told parts)) other) ∙ same))
    ∙ roll-out-SqlType other

pub same_type_is : (ty other : SqlType) → same_type ty other ≡ true → ty ≡ other
same_type_is = by_parts Told step
