-- A type is cast to itself, and a value of it is cast to itself.
use Rattle.std.proofs.Common.{◌≡◌, ℕ, true, ◌&&◌, List, [], ◌∷◌, refl, ap, sym, ◌∙◌, arith}
use Rattle.std.specs.Prelude.{ℤ, pos, negsuc, Ok, nat_lt}
use Rattle.std.proofs.lemmas.Grind.{common_steps}
use Rattle.std.proofs.lemmas.Bool.{and_parts}
use Rattle.sql_types.specs.Outcome.{Outcome}
use Rattle.sql_types.specs.Fits.{fits, fits_row, within}
use Rattle.sql_types.specs.SameType.{same_type, same_label, same_fields_of}
use Rattle.sql_types.proofs.TypeOpens.{same_at, same_opens}
use Rattle.sql_types.proofs.ValueOpens.{fits_at, fits_opens}
use Rattle.sql_types.specs.declared.sql_type.Named.{Named}
use Rattle.sql_types.specs.declared.sql_type.SqlType.{SqlType, out-SqlType, roll-SqlType, out-roll-SqlType}
use Rattle.sql_types.specs.declared.sql_type.SqlType.TheOpen as t
use Rattle.sql_types.specs.declared.value.Value.{Value, out-Value, roll-Value, roll-out-Value}
use Rattle.sql_types.specs.declared.value.Value.TheOpen as v
use Rattle.sql_types.specs.declared.value.Value.TheVariants as value
use Rattle.sql_coerce.specs.Casts.{castable, fields_castable, converted, fields_converted, struct_value, or_cast_fault, signed_value, unsigned_value}
use Rattle.sql_coerce.proofs.CastLevels.{castable_at, castable_level, converted_at, converted_level}
use Rattle.sql_coerce.proofs.FitLaws.{With, bare, bare_fields, by_parts}

-- ---- the pair

abbrev Paired : SqlType → Type 0
Paired from = (to : SqlType) → same_type from to ≡ true → castable from to ≡ true

paired-rows : (fs : List (Named (With Paired))) (gs : List (Named SqlType)) → same_fields_of (bare_fields Paired fs) gs ≡ true → fields_castable (bare_fields Paired fs) gs ≡ true
paired-rows [] [] is = refl
paired-rows [] (g ∷ gs) is = cc
paired-rows (f ∷ fs) [] is = cc
paired-rows (f ∷ fs) (g ∷ gs) is =
    let named = and_parts (same_label f.name g.name) (same_type f.ty.0 g.ty && same_fields_of (bare_fields Paired fs) gs) is in
    let typed = and_parts (same_type f.ty.0 g.ty) (same_fields_of (bare_fields Paired fs) gs) named.1 in
    rw (f.ty.1 g.ty typed.0, paired-rows fs gs typed.1) refl

paired-level : (parts : t.SqlType-F (With Paired)) (m : t.SqlType-F SqlType) → same_at (bare Paired parts) m ≡ true → castable_at (bare Paired parts) m ≡ true
paired-level (t.Struct fs) (t.Struct gs) is = paired-rows fs gs is
paired-level (t.Array e) (t.Array f) is = is
paired-level t.Bool t.Bool is = refl
paired-level t.Int32 t.Int32 is = refl
paired-level t.Int64 t.Int64 is = refl
paired-level t.Uint32 t.Uint32 is = refl
paired-level t.Uint64 t.Uint64 is = refl
paired-level t.Text t.Text is = refl
paired-level t.Bytes t.Bytes is = refl
paired-level t.Date t.Date is = refl
paired-level _ _ is = cc

paired-step : (parts : t.SqlType-F (With Paired)) → Paired (roll-SqlType (bare Paired parts))
paired-step parts to is =
    let whole = roll-SqlType (bare Paired parts) in
    let left : out-SqlType whole ≡ bare Paired parts = out-roll-SqlType (bare Paired parts) in
    castable_level whole to
    ∙ ap (λ l. castable_at l (out-SqlType to)) left
    ∙ paired-level parts (out-SqlType to) (ap (λ l. same_at l (out-SqlType to)) (sym left) ∙ sym (same_opens whole to) ∙ is)

pub same_castable : (from to : SqlType) → same_type from to ≡ true → castable from to ≡ true
same_castable = by_parts Paired paired-step

-- ---- the value

abbrev Kept : SqlType → Type 0
Kept from = (to : SqlType) (x : Value) → same_type from to ≡ true → fits from x ≡ true → converted from to x ≡ Ok x

abbrev ok : Value → Outcome Value
ok x = Ok x

kept-rows : (fs : List (Named (With Kept))) (gs : List (Named SqlType)) (xs : List Value) → same_fields_of (bare_fields Kept fs) gs ≡ true → fits_row (bare_fields Kept fs) xs ≡ true
    → fields_converted (bare_fields Kept fs) gs xs ≡ Ok xs
kept-rows [] [] [] is fit = refl
kept-rows [] [] (x ∷ xs) is fit = cc
kept-rows [] (g ∷ gs) xs is fit = cc
kept-rows (f ∷ fs) [] xs is fit = cc
kept-rows (f ∷ fs) (g ∷ gs) [] is fit = cc
kept-rows (f ∷ fs) (g ∷ gs) (x ∷ xs) is fit =
    let named = and_parts (same_label f.name g.name) (same_type f.ty.0 g.ty && same_fields_of (bare_fields Kept fs) gs) is in
    let typed = and_parts (same_type f.ty.0 g.ty) (same_fields_of (bare_fields Kept fs) gs) named.1 in
    let fit_parts = and_parts (fits f.ty.0 x) (fits_row (bare_fields Kept fs) xs) fit in
    rw (f.ty.1 g.ty x typed.0 fit_parts.0, kept-rows fs gs xs typed.1 fit_parts.1) refl

signed-kept : (least greatest n : ℤ) → within least greatest n ≡ true → or_cast_fault (signed_value least greatest n) ≡ Ok (value.Int n)
signed-kept least greatest n fit = rw fit refl

unsigned-kept : (greatest : ℤ) (n : ℕ) → within (pos 0) greatest (pos n) ≡ true → or_cast_fault (unsigned_value greatest (pos n)) ≡ Ok (value.Uint n)
unsigned-kept greatest n fit = rw fit refl

within-32 : (n : ℕ) → nat_lt n 4294967296 ≡ true → within (pos 0) (pos 4294967295) (pos n) ≡ true
within-32 n fit = grind (arith, common_steps)

within-64 : (n : ℕ) → nat_lt n 18446744073709551616 ≡ true → within (pos 0) (pos 18446744073709551615) (pos n) ≡ true
within-64 n fit = grind (arith, common_steps)

null-kept : (l m : t.SqlType-F SqlType) → converted_at l m v.Null ≡ Ok value.Null
null-kept (t.Struct fs) (t.Struct gs) = refl
null-kept (t.Struct fs) _ = refl
null-kept t.Bool _ = refl
null-kept _ _ = refl

kept-level : (parts : t.SqlType-F (With Kept)) (m : t.SqlType-F SqlType) (a : v.Value-F Value) → same_at (bare Kept parts) m ≡ true → fits_at (bare Kept parts) a ≡ true
    → converted_at (bare Kept parts) m a ≡ Ok (roll-Value a)
kept-level (t.Struct fs) (t.Struct gs) (v.Struct xs) is fit = ap struct_value (kept-rows fs gs xs is fit) ∙ ap ok (sym (value.rolls-Struct xs))
kept-level (t.Array e) (t.Array f) (v.Array xs) is fit = ap ok (sym (value.rolls-Array xs))
kept-level parts m v.Null is fit = null-kept (bare Kept parts) m ∙ ap ok (sym value.rolls-Null)
kept-level t.Bool t.Bool (v.Bool b) is fit = ap ok (sym (value.rolls-Bool b))
kept-level t.Int32 t.Int32 (v.Int n) is fit = signed-kept (negsuc 2147483647) (pos 2147483647) n fit ∙ ap ok (sym (value.rolls-Int n))
kept-level t.Int64 t.Int64 (v.Int n) is fit = signed-kept (negsuc 9223372036854775807) (pos 9223372036854775807) n fit ∙ ap ok (sym (value.rolls-Int n))
kept-level t.Uint32 t.Uint32 (v.Uint n) is fit = unsigned-kept (pos 4294967295) n (within-32 n fit) ∙ ap ok (sym (value.rolls-Uint n))
kept-level t.Uint64 t.Uint64 (v.Uint n) is fit = unsigned-kept (pos 18446744073709551615) n (within-64 n fit) ∙ ap ok (sym (value.rolls-Uint n))
kept-level t.Text t.Text (v.Text text) is fit = ap ok (sym (value.rolls-Text text))
kept-level t.Bytes t.Bytes (v.Bytes bytes) is fit = ap ok (sym (value.rolls-Bytes bytes))
kept-level t.Date t.Date (v.Date day) is fit = ap ok (sym (value.rolls-Date day))
kept-level _ _ a is fit = cc

kept-step : (parts : t.SqlType-F (With Kept)) → Kept (roll-SqlType (bare Kept parts))
kept-step parts to x is fit =
    let whole = roll-SqlType (bare Kept parts) in
    let left : out-SqlType whole ≡ bare Kept parts = out-roll-SqlType (bare Kept parts) in
    converted_level whole to x
    ∙ ap (λ l. converted_at l (out-SqlType to) (out-Value x)) left
    ∙ kept-level parts (out-SqlType to) (out-Value x)
    (ap (λ l. same_at l (out-SqlType to)) (sym left) ∙ sym (same_opens whole to) ∙ is)
    (ap (λ l. fits_at l (out-Value x)) (sym left) ∙ sym (fits_opens whole x) ∙ fit)
    ∙ ap ok (roll-out-Value x)

-- a value is cast to itself where the types are the same
pub same_converts : (from to : SqlType) (x : Value) → same_type from to ≡ true → fits from x ≡ true → converted from to x ≡ Ok x
same_converts = by_parts Kept kept-step
