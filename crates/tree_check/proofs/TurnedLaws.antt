-- Whether two types are the same doesn't hang on which stands first.
use Rattle.std.proofs.Common.{◌≡◌, ℕ, Bool, true, false, ◌&&◌, List, [], ◌∷◌, Option, None, Some, refl, ap, sym, ◌∙◌}
use Rattle.std.specs.Str.{bytes_eq}
use Rattle.std.proofs.lemmas.Slice.Eq.{bytes_eq-Decides}
use Rattle.sql_types.specs.declared.sql_type.Named.{Named}
use Rattle.sql_types.specs.declared.sql_type.SqlType.{SqlType, out-SqlType, roll-SqlType, out-roll-SqlType}
use Rattle.sql_types.specs.declared.sql_type.SqlType.TheOpen as t
use Rattle.sql_types.specs.SameType.{same_type, same_label, same_fields_of}
use Rattle.sql_types.proofs.TypeOpens.{same_at, same_opens}
use Rattle.sql_coerce.proofs.FitLaws.{With, bare, bare_fields, by_parts}

bytes_turned : (xs ys : List ℕ) (a b : Bool) → bytes_eq xs ys ≡ a → bytes_eq ys xs ≡ b → a ≡ b
bytes_turned xs ys true true e f = refl
bytes_turned xs ys false false e f = refl
bytes_turned xs ys true false e f = sym ((bytes_eq-Decides ys xs).1 (sym ((bytes_eq-Decides xs ys).0 e))) ∙ f
bytes_turned xs ys false true e f = sym e ∙ (bytes_eq-Decides xs ys).1 (sym ((bytes_eq-Decides ys xs).0 f))

label_turned : (a b : Option (List ℕ)) → same_label a b ≡ same_label b a
label_turned None None = refl
label_turned None (Some b) = refl
label_turned (Some a) None = refl
label_turned (Some a) (Some b) = bytes_turned a b (bytes_eq a b) (bytes_eq b a) refl refl

abbrev Turned : SqlType → Type 0
Turned x = (y : SqlType) → same_type x y ≡ same_type y x

fields_turned : (fs : List (Named (With Turned))) (gs : List (Named SqlType)) → same_fields_of (bare_fields Turned fs) gs ≡ same_fields_of gs (bare_fields Turned fs)
fields_turned [] [] = refl
fields_turned [] (g ∷ gs) = refl
fields_turned (f ∷ fs) [] = refl
fields_turned (f ∷ fs) (g ∷ gs) =
    ap (λ b. b && (same_type f.ty.0 g.ty && same_fields_of (bare_fields Turned fs) gs)) (label_turned f.name g.name)
    ∙ ap (λ b. same_label g.name f.name && (b && same_fields_of (bare_fields Turned fs) gs)) (f.ty.1 g.ty)
    ∙ ap (λ b. same_label g.name f.name && (same_type g.ty f.ty.0 && b)) (fields_turned fs gs)

turned_level : (parts : t.SqlType-F (With Turned)) (m : t.SqlType-F SqlType) → same_at (bare Turned parts) m ≡ same_at m (bare Turned parts)
turned_level (t.Struct fs) (t.Struct gs) = fields_turned fs gs
turned_level (t.Array e) (t.Array f) = e.1 f
turned_level t.Bool t.Bool = refl
turned_level t.Int32 t.Int32 = refl
turned_level t.Int64 t.Int64 = refl
turned_level t.Uint32 t.Uint32 = refl
turned_level t.Uint64 t.Uint64 = refl
turned_level t.Text t.Text = refl
turned_level t.Bytes t.Bytes = refl
turned_level t.Date t.Date = refl
turned_level _ _ = refl

turned_step : (parts : t.SqlType-F (With Turned)) → Turned (roll-SqlType (bare Turned parts))
turned_step parts y =
    let whole = roll-SqlType (bare Turned parts) in
    let left : out-SqlType whole ≡ bare Turned parts = out-roll-SqlType (bare Turned parts) in
    same_opens whole y ∙ ap (λ l. same_at l (out-SqlType y)) left ∙ turned_level parts (out-SqlType y)
    ∙ ap (same_at (out-SqlType y)) (sym left) ∙ sym (same_opens y whole)

pub same_turned : (x y : SqlType) → same_type x y ≡ same_type y x
same_turned = by_parts Turned turned_step
