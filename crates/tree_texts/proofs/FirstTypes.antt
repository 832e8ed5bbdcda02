-- What the first argument of a call tells of the row that the call takes.
use Rattle.std.proofs.Common.{◌≡◌, ℕ, suc, ◌==◌, ◌-◌, nat_le, Bool, true, false, ◌&&◌, is_some, is_none, if◌then◌else◌, List, [], ◌∷◌, ◌++◌, map, length, take, replicate, Option, None, Some, option_map, refl, ap, sym, subst, ◌∙◌}
use Rattle.std.specs.List.{last_or}
use Rattle.std.proofs.lemmas.Bool.{false≢true, and_parts}
use Rattle.sql_types.specs.declared.sql_type.SqlType.{SqlType, out-SqlType}
use Rattle.sql_types.specs.declared.sql_type.SqlType.TheOpen as t
use Rattle.sql_types.specs.declared.sql_type.SqlType.TheVariants as ty
use Rattle.sql_types.specs.SameType.{same_type}
use Rattle.sql_types.proofs.TypeOpens.{same_at, same_opens}
use Rattle.sql_builtins.specs.declared.table.Repeats.{Repeats}
use Rattle.sql_builtins.specs.declared.table.Repeats.TheVariants as repeats
use Rattle.sql_builtins.specs.declared.table.Slot.{Slot}
use Rattle.sql_builtins.specs.declared.table.Slot.TheVariants as slot
use Rattle.sql_builtins.specs.Choices.{places, common_type, element_type, target_types, slot_type}
use Rattle.sql_builtins.specs.Table.{Signature}
use Rattle.resolved_ast.specs.declared.rex.Rex.{Rex}
use Rattle.resolved_ast.specs.Columns.{rex_type}
use Rattle.resolved_ast.specs.Signatures.{args, typed_as, typed_by, row_typed, row_shaped}

-- ---- classes of types

abbrev class : t.SqlType-F SqlType → ℕ
class t.Uint64 = 1
class t.Bytes = 1
class (t.Array element) = 2
class _ = 0

abbrev pub first_class : List SqlType → ℕ
first_class [] = 0
first_class (ty ∷ types) = class (out-SqlType ty)

same_class : (a b : t.SqlType-F SqlType) → same_at a b ≡ true → class a ≡ class b
same_class t.Bool t.Bool same = refl
same_class t.Int32 t.Int32 same = refl
same_class t.Int64 t.Int64 same = refl
same_class t.Uint32 t.Uint32 same = refl
same_class t.Uint64 t.Uint64 same = refl
same_class t.Text t.Text same = refl
same_class t.Bytes t.Bytes same = refl
same_class t.Date t.Date same = refl
same_class (t.Array x) (t.Array y) same = refl
same_class (t.Struct fs) (t.Struct gs) same = refl
same_class _ _ same = absurd (false≢true same)

abbrev slot_class : Slot → ℕ
slot_class slot.Uint64 = 1
slot_class slot.Bytes = 1
slot_class slot.ArrayOfElement = 2
slot_class _ = 0

-- a place that tells its class
abbrev tells : Slot → Bool
tells slot.Int64 = true
tells slot.Uint64 = true
tells slot.String = true
tells slot.Bytes = true
tells slot.ArrayOfElement = true
tells _ = false

slot_told : (s : Slot) (common element own : SqlType) → tells s ≡ true → class (out-SqlType (slot_type common element own s)) ≡ slot_class s
slot_told slot.Int64 common element own is = ap class ty.outs-Int64
slot_told slot.Uint64 common element own is = ap class ty.outs-Uint64
slot_told slot.String common element own is = ap class ty.outs-Text
slot_told slot.Bytes common element own is = ap class ty.outs-Bytes
slot_told slot.ArrayOfElement common element own is = ap class (ty.outs-Array element)
slot_told _ common element own is = absurd (false≢true is)

-- ---- rows

abbrev head_class : List Slot → ℕ
head_class [] = 0
head_class (s ∷ slots) = slot_class s

abbrev head_tells : List Slot → Bool
head_tells [] = false
head_tells (s ∷ slots) = tells s

abbrev pub row_class : Option Signature → ℕ
row_class None = 0
row_class (Some row) = head_class row.takes

-- a row that takes an argument at least, and whose first place tells its class
abbrev pub decides : Option Signature → Bool
decides None = false
decides (Some row) = head_tells row.takes && is_none (places row.repeats row.takes 0)

-- ---- the places of a call with arguments begin as the row does

abbrev Begins : Slot → List Slot → Type 0
Begins s slots = (more : List Slot) × (slots ≡ s ∷ more)

of_none : (s : Slot) (slots : List Slot) → ◌≡◌ {A = Option (List Slot)} None (Some slots) → Begins s slots
of_none s slots e = absurd cc

of_some : (s : Slot) (more slots : List Slot) → ◌≡◌ {A = Option (List Slot)} (Some (s ∷ more)) (Some slots) → Begins s slots
of_some s more slots e = (more, cc)

of_test : (b : Bool) (s : Slot) (more slots : List Slot) → ◌≡◌ {A = Option (List Slot)} (if b then Some (s ∷ more) else None) (Some slots) → Begins s slots
of_test true s more slots e = of_some s more slots e
of_test false s more slots e = of_none s slots e

of_optional : (b c : Bool) (s : Slot) (all more slots : List Slot) → ◌≡◌ {A = Option (List Slot)} (if b then Some (s ∷ all) else if c then Some (s ∷ more) else None) (Some slots) → Begins s slots
of_optional true c s all more slots e = of_some s all slots e
of_optional false c s all more slots e = of_test c s more slots e

of_last : (b : Bool) (s : Slot) (rest : List Slot) (again : Slot → List Slot) (last : Option Slot) (slots : List Slot)
    → ◌≡◌ {A = Option (List Slot)} (if b then option_map (λ l. (s ∷ rest) ++ again l) last else None) (Some slots) → Begins s slots
of_last true s rest again (Some l) slots e = of_some s (rest ++ again l) slots e
of_last true s rest again None slots e = of_none s slots e
of_last false s rest again last slots e = of_none s slots e

begun : (r : Repeats) (s : Slot) (rest : List Slot) (n : ℕ) (slots : List Slot) → places r (s ∷ rest) (suc n) ≡ Some slots → Begins s slots
begun repeats.Exactly s rest n slots e = of_test (length (s ∷ rest) == suc n) s rest slots e
begun repeats.LastOptional s rest n slots e = of_optional (length (s ∷ rest) == suc n) (length (s ∷ rest) == suc (suc n)) s rest (take n rest) slots e
begun repeats.LastRepeats s rest n slots e = of_last (nat_le (length (s ∷ rest)) (suc n)) s rest (λ l. replicate (suc n - length (s ∷ rest)) l) (last_or None (s ∷ rest)) slots e

taken_by : (r : Repeats) (s : Slot) (rest : List Slot) (n : ℕ) (p : Option (List Slot)) → places r (s ∷ rest) (suc n) ≡ p → is_some p ≡ true → Begins s (elim p [ None ↦ s ∷ rest | Some slots ↦ slots ])
taken_by r s rest n None is some = absurd (false≢true some)
taken_by r s rest n (Some slots) is some = begun r s rest n slots is

slots_begin : (r : Repeats) (takes : List Slot) (s : Slot) (rest : List Slot) (n : ℕ) → takes ≡ s ∷ rest → is_some (places r takes (suc n)) ≡ true
    → Begins s (elim (places r takes (suc n)) [ None ↦ takes | Some slots ↦ slots ])
slots_begin r takes s rest n is some =
    subst (λ z. is_some (places r z (suc n)) ≡ true → Begins s (elim (places r z (suc n)) [ None ↦ z | Some slots ↦ slots ])) (sym is) (taken_by r s rest n (places r (s ∷ rest) (suc n)) refl) some

-- ---- the first type

typed_first : (row : Signature) (s : Slot) (more : List Slot) (ty : SqlType) (types : List SqlType) (gives : SqlType) (common element : Option SqlType) → tells s ≡ true
    → typed_by row (s ∷ more) (ty ∷ types) gives common element ≡ true → class (out-SqlType ty) ≡ slot_class s
typed_first row s more ty types gives None element is typed = absurd (false≢true typed)
typed_first row s more ty types gives (Some common) None is typed = absurd (false≢true typed)
typed_first row s more ty types gives (Some common) (Some element) is typed =
    let to = slot_type common element ty s in
    let all = and_parts (typed_as (target_types common element (s ∷ more) (args (ty ∷ types))) (ty ∷ types)) _ typed in
    let first = and_parts (same_type to ty) (typed_as (target_types common element more (args types)) types) all.0 in
    sym (same_class (out-SqlType to) (out-SqlType ty) (sym (same_opens to ty) ∙ first.0)) ∙ slot_told s common element ty is

by_takes : (row : Signature) (takes : List Slot) (ty : SqlType) (types : List SqlType) (gives : SqlType) → row.takes ≡ takes → head_tells takes ≡ true
    → is_some (places row.repeats row.takes (suc (length types))) ≡ true → row_typed (Some row) (ty ∷ types) gives ≡ true → class (out-SqlType ty) ≡ head_class takes
by_takes row [] ty types gives is first some typed = absurd (false≢true first)
by_takes row (s ∷ rest) ty types gives is first some typed =
    let b = slots_begin row.repeats row.takes s rest (length types) is some in
    typed_first row s b.0 ty types gives (common_type (s ∷ b.0) (args (ty ∷ types))) (element_type (s ∷ b.0) (args (ty ∷ types))) first
    (subst (λ z. typed_by row z (ty ∷ types) gives (common_type z (args (ty ∷ types))) (element_type z (args (ty ∷ types))) ≡ true) b.1 typed)

none_some : {A : Type 0} (p : Option A) → is_none p ≡ true → is_some p ≡ true → true ≡ false
none_some None none some = sym some
none_some (Some x) none some = sym none

by_row : (row : Signature) (xs : List Rex) (gives : SqlType) → decides (Some row) ≡ true → row_typed (Some row) (map rex_type xs) gives ≡ true
    → is_some (places row.repeats row.takes (length (map rex_type xs))) ≡ true → first_class (map rex_type xs) ≡ head_class row.takes
by_row row [] gives first typed some = absurd (false≢true (sym (none_some (places row.repeats row.takes 0) (and_parts (head_tells row.takes) (is_none (places row.repeats row.takes 0)) first).1 some)))
by_row row (x ∷ xs) gives first typed some =
    by_takes row row.takes (rex_type x) (map rex_type xs) gives refl (and_parts (head_tells row.takes) (is_none (places row.repeats row.takes 0)) first).0 some typed

pub led : (r : Option Signature) (xs : List Rex) (gives : SqlType) → decides r ≡ true → row_typed r (map rex_type xs) gives ≡ true → row_shaped r xs ≡ true → first_class (map rex_type xs) ≡ row_class r
led None xs gives first typed shaped = absurd (false≢true first)
led (Some row) xs gives first typed shaped = by_row row xs gives first typed (and_parts (is_some (places row.repeats row.takes (length (map rex_type xs)))) _ shaped).0
