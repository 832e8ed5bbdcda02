-- Columns one after the other, and their names.
use Rattle.std.proofs.Common.{◌≡◌, ℕ, suc, zero, ◌-◌, ◌<◌, ◌≤◌, Bool, true, false, cond, List, [], ◌∷◌, ◌++◌, length, drop, get_or, drop-cons, refl, sym, ap, ◌∙◌, arith}
use Rattle.std.specs.List.{list_any}
use Rattle.std.specs.Option.{option_map_or}
use Rattle.std.specs.Prelude.{Option, Some, None, not, ◌&&◌, ◌||◌}
use Rattle.std.specs.Str.{bytes_eq, str_to_ascii_lowercase}
use Rattle.std.proofs.lemmas.Slice.Eq.{bytes_eq-Decides}
use Rattle.sql_types.specs.declared.sql_type.Named.{Named}
use Rattle.sql_types.specs.declared.sql_type.SqlType.{SqlType}
use Rattle.small_catalog.specs.Catalogs.{distinct, is_named_again}

abbrev Column : Type 0
Column = Named SqlType

-- columns before the rest of the columns
abbrev pub after_columns : List Column → Option (List Column) → Option (List Column)
after_columns columns (Some rest) = Some (columns ++ rest)
after_columns columns None = None

-- a column's name in lower case is these letters
abbrev pub is_lettered : List ℕ → Column → Bool
is_lettered letters column = option_map_or (λ name. bytes_eq letters (str_to_ascii_lowercase name)) column.name false

abbrev pub has_letters : List ℕ → List Column → Bool
has_letters letters columns = list_any (is_lettered letters) columns

-- the columns from a place on, one place earlier
at-place : (columns : List Column) (place : ℕ) (column : Column) → 0 < place → place ≤ length columns → column ≡ get_or columns (place - 1) column
    → drop (place - 1) columns ≡ column ∷ drop place columns
at-place columns place column some within is =
    let lt : place - 1 < length columns = omega arith in
    let next : suc (place - 1) ≡ place = omega arith in
    drop-cons columns (place - 1) column lt
    ∙ ap (λ c. c ∷ drop (suc (place - 1)) columns) (sym is)
    ∙ ap (λ n. column ∷ drop n columns) next

-- a column shares its name with a later one where that has its letters
shared : (column : Column) (later : List Column) (name : List ℕ) → column.name ≡ Some name
    → is_named_again column later ≡ has_letters (str_to_ascii_lowercase name) later
shared column later name is = rw is refl

and-false : (b : Bool) → (b && false) ≡ false
and-false true = refl
and-false false = refl

-- columns that aren't distinct behind others aren't distinct
distinct-drop : (k : ℕ) (columns : List Column) → distinct (drop k columns) ≡ false → distinct columns ≡ false
distinct-drop zero columns is = is
distinct-drop (suc k) [] is = is
distinct-drop (suc k) (column ∷ columns) is = rw (distinct-drop k columns is) (and-false (not (is_named_again column columns)))

-- a column with the name of a later one
pub shares-name : (columns : List Column) (place : ℕ) (column : Column) (name : List ℕ) → 0 < place → place ≤ length columns
    → column ≡ get_or columns (place - 1) column → column.name ≡ Some name → has_letters (str_to_ascii_lowercase name) (drop place columns) ≡ true
    → distinct columns ≡ false
shares-name columns place column name some within is named held =
    let again : is_named_again column (drop place columns) ≡ true = shared column (drop place columns) name named ∙ held in
    let here : distinct (drop (place - 1) columns) ≡ false = rw (at-place columns place column some within is, again) refl in
    distinct-drop (place - 1) columns here

-- a column whose name no later one has
pub own-name : (columns : List Column) (place : ℕ) (column : Column) (name : List ℕ) → 0 < place → place ≤ length columns
    → column ≡ get_or columns (place - 1) column → column.name ≡ Some name → has_letters (str_to_ascii_lowercase name) (drop place columns) ≡ false
    → distinct (drop place columns) ≡ true → distinct (drop (place - 1) columns) ≡ true
own-name columns place column name some within is named held rest =
    let again : is_named_again column (drop place columns) ≡ false = shared column (drop place columns) name named ∙ held in
    rw (at-place columns place column some within is, again, rest) refl

swapped : (xs ys : List ℕ) → bytes_eq xs ys ≡ bytes_eq ys xs
swapped xs ys = by (bytes_eq xs ys) refl
  where
    by : (b : Bool) → bytes_eq xs ys ≡ b → b ≡ bytes_eq ys xs
    by true is = let same : xs ≡ ys = (bytes_eq-Decides xs ys).0 is in sym ((bytes_eq-Decides ys xs).1 (sym same))
    by false is = other (bytes_eq ys xs) refl
      where
        other : (d : Bool) → bytes_eq ys xs ≡ d → false ≡ d
        other false back = refl
        other true back = sym is ∙ (bytes_eq-Decides xs ys).1 (sym ((bytes_eq-Decides ys xs).0 back))

or-cond : (b old : Bool) → cond b true old ≡ (b || old)
or-cond true old = refl
or-cond false old = refl

-- the letters that are held once a column's name is put in
pub held-next : (columns : List Column) (place : ℕ) (column : Column) (name letters : List ℕ) (new old : Bool) → 0 < place → place ≤ length columns
    → column ≡ get_or columns (place - 1) column → column.name ≡ Some name
    → new ≡ cond (bytes_eq (str_to_ascii_lowercase name) letters) true old → old ≡ has_letters letters (drop place columns)
    → new ≡ has_letters letters (drop (place - 1) columns)
held-next columns place column name letters new old some within is named put held =
    let lettered : is_lettered letters column ≡ bytes_eq (str_to_ascii_lowercase name) letters = rw named (swapped letters (str_to_ascii_lowercase name)) in
    rw (at-place columns place column some within is, lettered, put, held)
    (or-cond (bytes_eq (str_to_ascii_lowercase name) letters) (has_letters letters (drop place columns)))

-- what `not` says
pub not-false : (b : Bool) → not b ≡ false → b ≡ true
not-false true is = refl
not-false false is = cc

pub not-true : (b : Bool) → not b ≡ true → b ≡ false
not-true true is = cc
not-true false is = refl
