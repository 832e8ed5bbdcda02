-- Rows that fit their columns.
use Rattle.std.proofs.Common.{◌≡◌, ℕ, zero, suc, ◌<◌, Bool, true, false, ◌&&◌, List, [], ◌∷◌, length, Some, None, refl, ap, subst, arith}
use Rattle.std.specs.Prelude.{slice_get, slice_index_or}
use Rattle.sql_types.specs.declared.sql_type.Named.{Named}
use Rattle.sql_types.specs.declared.sql_type.SqlType.{SqlType}
use Rattle.sql_types.specs.declared.value.Value.{Value}
use Rattle.sql_types.specs.declared.value.Value.TheVariants.{Null}
use Rattle.sql_types.specs.Fits.{fits, fits_row}
use Rattle.sql_rules.specs.Tables.{table_values}

pub both : (a b : Bool) → (a && b) ≡ true → (a ≡ true) × (b ≡ true)
both true b h = (refl, h)
both false b h = absurd cc

pub one_of_each : (a b : Bool) → a ≡ true → b ≡ true → (a && b) ≡ true
one_of_each true b p q = q
one_of_each false b p q = absurd cc

pub fits_length : (cs : List (Named SqlType)) (row : List Value) → fits_row cs row ≡ true → length row ≡ length cs
fits_length [] [] h = refl
fits_length [] (x ∷ xs) h = absurd cc
fits_length (c ∷ cs) [] h = absurd cc
fits_length (c ∷ cs) (x ∷ xs) h = ap suc (fits_length cs xs (both (fits c.ty x) (fits_row cs xs) h).1)

-- the value at a column's place fits the column
pub fits_at : (cs : List (Named SqlType)) (row : List Value) (slot : ℕ) (c : Named SqlType) → slice_get cs slot ≡ Some c → fits_row cs row ≡ true → fits c.ty (slice_index_or row slot Null) ≡ true
fits_at [] row slot c at h = absurd cc
fits_at (d ∷ cs) [] slot c at h = absurd cc
fits_at (d ∷ cs) (x ∷ xs) zero c at h = let same : d ≡ c = cc in subst (λ (e : Named SqlType). fits e.ty x ≡ true) same (both (fits d.ty x) (fits_row cs xs) h).0
fits_at (d ∷ cs) (x ∷ xs) (suc slot) c at h = fits_at cs xs slot c at (both (fits d.ty x) (fits_row cs xs) h).1

-- what stands in a row stands at the same place beside the range variable
pub value_at : (row : List Value) (slot : ℕ) → slot < length row → slice_get (table_values row) slot ≡ Some (slice_index_or row slot Null)
value_at [] slot h = absurd (omega arith)
value_at (x ∷ xs) zero h = refl
value_at (x ∷ xs) (suc slot) h = value_at xs slot (omega arith)

-- ---- a place in a list, and past its end

pub index_at : {A : Type 0} (xs : List A) (i : ℕ) (x d : A) → slice_get xs i ≡ Some x → slice_index_or xs i d ≡ x
index_at [] i x d at = absurd cc
index_at (y ∷ ys) zero x d at = let same : y ≡ x = cc in same
index_at (y ∷ ys) (suc i) x d at = index_at ys i x d at

pub index_past : {A : Type 0} (xs : List A) (i : ℕ) (d : A) → slice_get xs i ≡ None → slice_index_or xs i d ≡ d
index_past [] i d past = refl
index_past (y ∷ ys) zero d past = absurd cc
index_past (y ∷ ys) (suc i) d past = index_past ys i d past
