-- A name in the scope of one table.
use Rattle.std.proofs.Common.{◌≡◌, ℕ, zero, suc, ◌+◌, ◌<◌, Bool, true, false, not, ◌&&◌, List, [], ◌∷◌, ◌++◌, length, Some, None, Ok, refl, sym, ap, ◌∙◌, subst, arith, add-zero}
use Rattle.std.specs.Prelude.{slice_get, slice_index_or, if◌then◌else◌}
use Rattle.std.proofs.lemmas.List.{append-nil}
use Rattle.sql_types.specs.declared.sql_type.Named.{Named}
use Rattle.sql_types.specs.declared.sql_type.SqlType.{SqlType}
use Rattle.sql_types.specs.declared.value.Value.{Value}
use Rattle.sql_types.specs.declared.value.Value.TheVariants.{Null}
use Rattle.sql_types.specs.Fits.{fits_row}
use Rattle.sql_names.specs.Words.{same_name}
use Rattle.sql_catalog.specs.declared.entries.TableDef.{TableDef}
use Rattle.sql_rules.specs.declared.scope.Entry.{Entry}
use Rattle.sql_rules.specs.declared.scope.What.TheVariants as what
use Rattle.sql_rules.specs.declared.scope.Found.{Found}
use Rattle.sql_rules.specs.Scopes.{is_named, is_range, places_from, ranges, columns, found_among, found}
use Rattle.sql_rules.specs.Tables.{column_entries, members_from}
use Rattle.sql_rules.specs.Typing.{name_type, found_type, other}
use Rattle.sql_rules.specs.Meaning.{Reads}
use Rattle.small_run.specs.Parts.{scope_of, env_of, only, IsColumn, NamesColumn}
use Rattle.small_run.proofs.Rows.{fits_length, value_at}

-- ---- places in a list that is made of two

places_step : (b : Bool) (at : ℕ) (whole first last : List ℕ) → whole ≡ first ++ last → (if b then at ∷ whole else whole) ≡ (if b then at ∷ first else first) ++ last
places_step true at whole first last e = ap (λ (ps : List ℕ). at ∷ ps) e
places_step false at whole first last e = e

pub places-append : (at : ℕ) (test : Entry → Bool) (xs ys : List Entry) → places_from at test (xs ++ ys) ≡ places_from at test xs ++ places_from (at + length xs) test ys
places-append at test [] ys = ap (λ (n : ℕ). places_from n test ys) (sym (add-zero at))
places-append at test (x ∷ xs) ys =
    places_step (test x) at (places_from (at + 1) test (xs ++ ys)) (places_from (at + 1) test xs) (places_from (at + suc (length xs)) test ys)
    (places-append (at + 1) test xs ys ∙ ap (λ (n : ℕ). places_from (at + 1) test xs ++ places_from n test ys) (let e : (at + 1) + length xs ≡ at + suc (length xs) = omega arith in e))

-- ---- the scope of a table

range_of : TableDef → Entry
range_of t = record { name = Some t.name; what = what.Range (members_from 0 t.columns); ty = None }

no_ranges : (at : ℕ) (name : List ℕ) (cs : List (Named SqlType)) → places_from at (λ e. is_range e.what && is_named e.name name) (column_entries cs) ≡ []
no_ranges at name [] = refl
no_ranges at name (c ∷ cs) = no_ranges (at + 1) name cs

module _ (t : TableDef) (name : List ℕ) where
  table_ranges : ranges name (scope_of t) ≡ (if same_name t.name name then (0 + length (column_entries t.columns)) ∷ [] else [])
  unfolding range_of
  table_ranges =
      places-append 0 (λ e. is_range e.what && is_named e.name name) (column_entries t.columns) (range_of t ∷ [])
      ∙ ap (λ (ps : List ℕ). ps ++ (if same_name t.name name then (0 + length (column_entries t.columns)) ∷ [] else [])) (no_ranges 0 name t.columns)

  table_columns : columns name (scope_of t) ≡ columns name (column_entries t.columns)
  unfolding range_of
  table_columns =
      places-append 0 (λ e. not (is_range e.what) && is_named e.name name) (column_entries t.columns) (range_of t ∷ [])
      ∙ append-nil (columns name (column_entries t.columns))

  -- what the name finds, by what has its name
  found_is : (range slots : List ℕ) → (if same_name t.name name then (0 + length (column_entries t.columns)) ∷ [] else []) ≡ range → columns name (column_entries t.columns) ≡ slots →
      found (scope_of t ∷ []) name [] ≡ found_among 0 (scope_of t) [] range slots
  unfolding found
  found_is range slots p q =
      ap (λ (rs : List ℕ). found_among 0 (scope_of t) [] rs (columns name (scope_of t))) (table_ranges ∙ p)
      ∙ ap (λ (ss : List ℕ). found_among 0 (scope_of t) [] range ss) (table_columns ∙ q)

-- ---- a name that is no column

entry_past : (cs : List (Named SqlType)) (e : Entry) → slice_get (column_entries cs ++ e ∷ []) (0 + length (column_entries cs)) ≡ Some e
entry_past [] e = refl
entry_past (c ∷ cs) e = let at : 0 + suc (length (column_entries cs)) ≡ suc (0 + length (column_entries cs)) = omega arith in ap (slice_get (column_entries (c ∷ cs) ++ e ∷ [])) at ∙ entry_past cs e

-- a range variable has no value, and hides the columns of its name
pub hidden : (t : TableDef) (name : List ℕ) → same_name t.name name ≡ true → NamesColumn t name None
unfolding range_of
hidden t name same = λ place. (
  (6, place),
  ap (name_type place (scope_of t ∷ [])) (found_is t name _ _ (ap (λ (b : Bool). if b then (0 + length (column_entries t.columns)) ∷ [] else []) same) refl)
      ∙ ap (found_type place) (entry_past t.columns (range_of t)),
)

-- ---- a column

first_below : (b : Bool) (at slot bound : ℕ) (rest more : List ℕ) → at < bound → (rest ≡ slot ∷ more → slot < bound) → (if b then at ∷ rest else rest) ≡ slot ∷ more → slot < bound
first_below true at slot bound rest more within later h = let same : at ≡ slot = cc in omega arith
first_below false at slot bound rest more within later h = later h

below : (at : ℕ) (test : Entry → Bool) (cs : List (Named SqlType)) (slot : ℕ) (more : List ℕ) → places_from at test (column_entries cs) ≡ slot ∷ more → slot < at + length cs
below at test [] slot more h = absurd cc
below at test (c ∷ cs) slot more h =
    first_below (test (record { name = c.name; what = what.Column; ty = Some c.ty })) at slot (at + suc (length cs)) (places_from (at + 1) test (column_entries cs)) more (omega arith)
    (λ e. let b = below (at + 1) test cs slot more e in omega arith) h

shown_at : (t : TableDef) (name : List ℕ) (slots : List ℕ) → same_name t.name name ≡ false → columns name (column_entries t.columns) ≡ slots → NamesColumn t name (only slots)
shown_at t name [] apart is = λ place. ((3, place), ap (name_type place (scope_of t ∷ [])) (found_is t name _ _ (ap (λ (b : Bool). if b then (0 + length (column_entries t.columns)) ∷ [] else []) apart) is))
shown_at t name (slot ∷ []) apart is = record {
  bound = found_is t name _ _ (ap (λ (b : Bool). if b then (0 + length (column_entries t.columns)) ∷ [] else []) apart) is;
  within = let b = below 0 (λ e. not (is_range e.what) && is_named e.name name) t.columns slot [] is in omega arith;
}
shown_at t name (slot ∷ second ∷ more) apart is = λ place. ((4, place), ap (name_type place (scope_of t ∷ [])) (found_is t name _ _ (ap (λ (b : Bool). if b then (0 + length (column_entries t.columns)) ∷ [] else []) apart) is))

pub shown : (t : TableDef) (name : List ℕ) → same_name t.name name ≡ false → NamesColumn t name (only (columns name (column_entries t.columns)))
shown t name apart = shown_at t name _ apart refl

entry_of : (cs : List (Named SqlType)) (e : Entry) (slot : ℕ) (c : Named SqlType) → slice_get cs slot ≡ Some c → slice_get (column_entries cs ++ e ∷ []) slot ≡ Some (record { name = c.name; what = what.Column; ty = Some c.ty })
entry_of [] e slot c at = absurd cc
entry_of (d ∷ cs) e zero c at = let same : d ≡ c = cc in ap (λ (d : Named SqlType). let entry : Entry = record { name = d.name; what = what.Column; ty = Some d.ty } in Some entry) same
entry_of (d ∷ cs) e (suc slot) c at = entry_of cs e slot c at

module _ (t : TableDef) (name : List ℕ) (slot : ℕ) (column : IsColumn t name slot) where
  -- the name has the column's type
  pub column_type : (place : ℕ) (c : Named SqlType) → slice_get t.columns slot ≡ Some c → name_type place (scope_of t ∷ []) (found (scope_of t ∷ []) name []) ≡ other c.ty
  unfolding range_of
  column_type place c at = ap (name_type place (scope_of t ∷ [])) column.bound ∙ ap (found_type place) (entry_of t.columns (range_of t) slot c at)

  -- at a row it is the value at the column's place
  pub column_reads : (row : List Value) → fits_row t.columns row ≡ true → Reads (env_of t row) (found (scope_of t ∷ []) name []) (Ok (slice_index_or row slot Null))
  column_reads row fit =
      let within : slot < length row = omega (arith, fits_length t.columns row fit, column.within) in
      subst (λ (f : Found). Reads (env_of t row) f (Ok (slice_index_or row slot Null))) (sym column.bound) (_, slice_index_or row slot Null, refl, value_at row slot within, refl)
