-- From values at the places of a row to what the row needs of them.
use Rattle.std.proofs.Common.{◌≡◌, ℕ, zero, suc, Bool, true, false, cond, eqb, List, [], ◌∷◌, length, Some, None, refl, ap, sym, ◌∙◌}
use Rattle.std.specs.Prelude.{◌-◌, replicate, nat_le}
use Rattle.sql_types.specs.declared.sql_type.SqlType.{SqlType}
use Rattle.sql_types.specs.declared.sql_type.SqlType.TheVariants as ty
use Rattle.sql_types.specs.declared.value.Value.{Value}
use Rattle.sql_types.specs.Fits.{fits}
use Rattle.sql_types.specs.Takes.{fits_types, all_fit, fits_repeated}
use Rattle.sql_types.proofs.TestParts.{first as left_of, second as right_of}
use Rattle.sql_builtins.specs.declared.table.Slot.{Slot}
use Rattle.sql_builtins.specs.declared.table.Slot.TheVariants as slot
use Rattle.sql_builtins.specs.declared.table.Repeats.{Repeats}
use Rattle.sql_builtins.specs.declared.table.Repeats.TheVariants as repeats
use Rattle.sql_builtins.specs.Choices.{places, slot_type}
use Rattle.sql_builtins.specs.Fitting.{place_types, first_own, other_owns}
use Rattle.sql_builtins.proofs.PlaceLaws.{some-same}
use Rattle.sql_gives.proofs.EachPasses.{both}

-- values at the places of a row, each of which fits the type of its place
pub record Placed (repeated : Repeats) (takes : List Slot) (values : List Value) : Type 0 where
  pub common : SqlType
  pub element : SqlType
  pub owns : List SqlType
  pub slots : List Slot
  pub placed : places repeated takes (length values) ≡ Some slots
  pub fit : fits_types (place_types common element owns slots) values ≡ true

-- ---- which places there are

exact_by : (b : Bool) (takes slots : List Slot) → cond b (Some takes) None ≡ Some slots → takes ≡ slots
exact_by true takes slots is = some-same takes slots is
exact_by false takes slots is = cc

-- where all places are there, the values fit them
pub exact_fit : (takes : List Slot) (values : List Value) (p : Placed repeats.Exactly takes values) → fits_types (place_types p.common p.element p.owns takes) values ≡ true
exact_fit takes values p =
    ap (λ s. fits_types (place_types p.common p.element p.owns s) values) (exact_by (eqb (length takes) (length values)) takes p.slots p.placed) ∙ p.fit

repeated_by : (b : Bool) (s : Slot) (n : ℕ) (slots : List Slot) → cond b (Some (s ∷ replicate n s)) None ≡ Some slots → replicate (suc n) s ≡ slots
repeated_by true s n slots is = some-same (s ∷ replicate n s) slots is
repeated_by false s n slots is = cc

-- ---- values of one type

-- each value at a place of this kind has this type
all_by : (s : Slot) (type common element : SqlType) → ((own : SqlType) → slot_type common element own s ≡ type) → (n : ℕ) (owns : List SqlType) (values : List Value) → fits_types (place_types common element owns (replicate n s)) values ≡ true → all_fit type values ≡ true
all_by s type common element is n owns [] fit = refl
all_by s type common element is zero owns (x ∷ xs) fit = cc
all_by s type common element is (suc n) owns (x ∷ xs) fit =
    both (fits type x) (all_fit type xs)
    (ap (λ (w : SqlType). fits w x) (sym (is (first_own owns))) ∙ left_of (fits (slot_type common element (first_own owns) s) x) _ fit)
    (all_by s type common element is n (other_owns owns) xs (right_of (fits (slot_type common element (first_own owns) s) x) _ fit))

exact_all : (s : Slot) (n : ℕ) (values : List Value) (p : Placed repeats.Exactly (replicate n s) values) (type : SqlType) → ((own : SqlType) → slot_type p.common p.element own s ≡ type) → all_fit type values ≡ true
exact_all s n values p type is = all_by s type p.common p.element is n p.owns values (exact_fit (replicate n s) values p)

repeated_all : (s : Slot) (values : List Value) (p : Placed repeats.LastRepeats (s ∷ []) values) (type : SqlType) → ((own : SqlType) → slot_type p.common p.element own s ≡ type) → all_fit type values ≡ true
repeated_all s values p type is =
    all_by s type p.common p.element is (suc (length values - 1)) p.owns values
    (ap (λ l. fits_types (place_types p.common p.element p.owns l) values) (repeated_by (nat_le 1 (length values)) s (length values - 1) p.slots p.placed) ∙ p.fit)

-- so many values of the common type, or one and more
pub commons : (n : ℕ) (values : List Value) (p : Placed repeats.Exactly (replicate n slot.Common) values) → all_fit p.common values ≡ true
commons n values p = exact_all slot.Common n values p p.common (λ own. refl)

pub repeated_commons : (values : List Value) (p : Placed repeats.LastRepeats (slot.Common ∷ []) values) → all_fit p.common values ≡ true
repeated_commons values p = repeated_all slot.Common values p p.common (λ own. refl)

-- so many arrays, or one and more
pub arrays : (n : ℕ) (values : List Value) (p : Placed repeats.Exactly (replicate n slot.ArrayOfElement) values) → all_fit (ty.Array p.element) values ≡ true
arrays n values p = exact_all slot.ArrayOfElement n values p (ty.Array p.element) (λ own. refl)

pub repeated_arrays : (values : List Value) (p : Placed repeats.LastRepeats (slot.ArrayOfElement ∷ []) values) → all_fit (ty.Array p.element) values ≡ true
repeated_arrays values p = repeated_all slot.ArrayOfElement values p (ty.Array p.element) (λ own. refl)

-- ---- rows that name their types

-- values of one named type
pub same_fit : (type : SqlType) (n : ℕ) (values : List Value) → fits_types (replicate n type) values ≡ true → all_fit type values ≡ true
same_fit type n [] fit = refl
same_fit type zero (x ∷ xs) fit = cc
same_fit type (suc n) (x ∷ xs) fit = both (fits type x) (all_fit type xs) (left_of (fits type x) _ fit) (same_fit type n xs (right_of (fits type x) _ fit))

pub repeated_fit : (type : SqlType) (values : List Value) → fits_repeated type values ≡ true → all_fit type values ≡ true
repeated_fit type [] fit = refl
repeated_fit type (x ∷ xs) fit = fit
