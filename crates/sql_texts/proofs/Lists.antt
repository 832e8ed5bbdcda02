-- Lists of literals: where each ends.
use Rattle.std.proofs.Common.{◌≡◌, ℕ, true, false, ◌==◌, List, [], ◌∷◌, ◌++◌, map, codes, refl, ap, sym, ◌∙◌, append_assoc}
use Rattle.std.proofs.lemmas.Bool.{false≢true, and_parts}
use Rattle.std.proofs.lemmas.List.{append_cancel_left}
use Rattle.std.specs.Char.{is_ascii_digit}
use Rattle.std.specs.List.{list_all}
use Rattle.sql_names.specs.Commas.{joined, continued}
use Rattle.sql_types.specs.Fits.{fits, fits_row}
use Rattle.sql_types.specs.declared.sql_type.Named.{Named}
use Rattle.sql_types.specs.declared.sql_type.SqlType.{SqlType, map-SqlType, out-SqlType}
use Rattle.sql_types.specs.declared.sql_type.SqlType.TheOpen as t
use Rattle.sql_types.specs.declared.sql_type.SqlType.TheShapes as shapes
use Rattle.sql_types.specs.declared.value.Value.{Value, out-Value}
use Rattle.sql_types.specs.declared.value.Value.TheOpen as v
use Rattle.sql_types.proofs.ValueOpens.{fits_opens}
use Rattle.sql_ast.specs.Literals.{LiteralText}
use Rattle.sql_texts.proofs.Numbers.{stops, first_of}
use Rattle.sql_texts.proofs.Openings.{literal_at, literal_opens, opening, first_at}

-- ---- a type whose parts are known

-- two literals of a type with no digit behind them: both values and what stands behind them are the same
abbrev pub Front : SqlType → Type 0
Front ty = (x y : Value) (r s : List ℕ) → fits ty x ≡ true → fits ty y ≡ true → stops r ≡ true → stops s ≡ true → LiteralText x ++ r ≡ LiteralText y ++ s → (x ≡ y) × (r ≡ s)

abbrev pub With : Type 0
With = (ty : SqlType) × Front ty

abbrev pub bare : t.SqlType-F With → t.SqlType-F SqlType
bare = map-SqlType With SqlType (λ e. e.0)

abbrev pub bare_fields : List (Named With) → List (Named SqlType)
bare_fields = map (shapes.former-SqlType-Struct-0-at-2.map With SqlType (λ e. e.0))

-- the first of several literals
item_once : (e : With) (x y : Value) (p q r s : List ℕ) → fits e.0 x ≡ true → fits e.0 y ≡ true → stops (p ++ r) ≡ true → stops (q ++ s) ≡ true
    → (LiteralText x ++ p) ++ r ≡ (LiteralText y ++ q) ++ s → (x ≡ y) × (p ++ r ≡ q ++ s)
item_once e x y p q r s fit fit' stop stop' same =
    e.1 x y (p ++ r) (q ++ s) fit fit' stop stop' (sym (append_assoc (LiteralText x) p r) ∙ same ∙ append_assoc (LiteralText y) q s)

-- behind a literal stands a comma, or what closes the list
more_stops : (xs : List Value) (z : ℕ) (r : List ℕ) → is_ascii_digit z ≡ false → stops (continued (map LiteralText xs) ++ z ∷ r) ≡ true
more_stops [] z r not = rw not refl
more_stops (x ∷ xs) z r not = refl

join : (x y : Value) (xs ys : List Value) (r s : List ℕ) → x ≡ y → (xs ≡ ys) × (r ≡ s) → (x ∷ xs ≡ y ∷ ys) × (r ≡ s)
join x y xs ys r s first rest = (λ i. first i ∷ rest.0 i, rest.1)

past_comma : (p q r s : List ℕ) → (codes ", " ++ p) ++ r ≡ (codes ", " ++ q) ++ s → p ++ r ≡ q ++ s
past_comma p q r s e = cc

-- ---- fields, and the values of a row

module _ (z : ℕ) (not : is_ascii_digit z ≡ false) where
  fields_more : (fs : List (Named With)) (xs ys : List Value) (r s : List ℕ) → fits_row (bare_fields fs) xs ≡ true → fits_row (bare_fields fs) ys ≡ true
      → continued (map LiteralText xs) ++ z ∷ r ≡ continued (map LiteralText ys) ++ z ∷ s → (xs ≡ ys) × (r ≡ s)
  fields_more [] [] [] r s fit fit' e = (refl, cc)
  fields_more [] (x ∷ xs) ys r s fit fit' e = absurd (false≢true fit)
  fields_more [] [] (y ∷ ys) r s fit fit' e = absurd (false≢true fit')
  fields_more (f ∷ fs) [] ys r s fit fit' e = absurd (false≢true fit)
  fields_more (f ∷ fs) (x ∷ xs) [] r s fit fit' e = absurd (false≢true fit')
  fields_more (f ∷ fs) (x ∷ xs) (y ∷ ys) r s fit fit' e =
      let left = and_parts (fits f.ty.0 x) (fits_row (bare_fields fs) xs) fit in
      let right = and_parts (fits f.ty.0 y) (fits_row (bare_fields fs) ys) fit' in
      let p = continued (map LiteralText xs) in
      let q = continued (map LiteralText ys) in
      let opened : (codes ", " ++ (LiteralText x ++ p)) ++ z ∷ r ≡ (codes ", " ++ (LiteralText y ++ q)) ++ z ∷ s = e in
      let first = item_once f.ty x y p q (z ∷ r) (z ∷ s) left.0 right.0 (more_stops xs z r not) (more_stops ys z s not) (past_comma (LiteralText x ++ p) (LiteralText y ++ q) (z ∷ r) (z ∷ s) opened) in
      join x y xs ys r s first.0 (fields_more fs xs ys r s left.1 right.1 first.1)

  pub fields_once : (fs : List (Named With)) (xs ys : List Value) (r s : List ℕ) → fits_row (bare_fields fs) xs ≡ true → fits_row (bare_fields fs) ys ≡ true
      → joined (map LiteralText xs) ++ z ∷ r ≡ joined (map LiteralText ys) ++ z ∷ s → (xs ≡ ys) × (r ≡ s)
  fields_once [] [] [] r s fit fit' e = (refl, cc)
  fields_once [] (x ∷ xs) ys r s fit fit' e = absurd (false≢true fit)
  fields_once [] [] (y ∷ ys) r s fit fit' e = absurd (false≢true fit')
  fields_once (f ∷ fs) [] ys r s fit fit' e = absurd (false≢true fit)
  fields_once (f ∷ fs) (x ∷ xs) [] r s fit fit' e = absurd (false≢true fit')
  fields_once (f ∷ fs) (x ∷ xs) (y ∷ ys) r s fit fit' e =
      let left = and_parts (fits f.ty.0 x) (fits_row (bare_fields fs) xs) fit in
      let right = and_parts (fits f.ty.0 y) (fits_row (bare_fields fs) ys) fit' in
      let p = continued (map LiteralText xs) in
      let q = continued (map LiteralText ys) in
      let first = item_once f.ty x y p q (z ∷ r) (z ∷ s) left.0 right.0 (more_stops xs z r not) (more_stops ys z s not) e in
      join x y xs ys r s first.0 (fields_more fs xs ys r s left.1 right.1 first.1)

-- ---- elements

elements_more : (e : With) (xs ys : List Value) (r s : List ℕ) → list_all (fits e.0) xs ≡ true → list_all (fits e.0) ys ≡ true
    → continued (map LiteralText xs) ++ 93 ∷ r ≡ continued (map LiteralText ys) ++ 93 ∷ s → (xs ≡ ys) × (r ≡ s)
elements_more e [] [] r s fit fit' same = (refl, cc)
elements_more e [] (y ∷ ys) r s fit fit' same = absurd (false≢true (sym (ap (λ z. first_of z == 93) same)))
elements_more e (x ∷ xs) [] r s fit fit' same = absurd (false≢true (ap (λ z. first_of z == 93) same))
elements_more e (x ∷ xs) (y ∷ ys) r s fit fit' same =
    let left = and_parts (fits e.0 x) (list_all (fits e.0) xs) fit in
    let right = and_parts (fits e.0 y) (list_all (fits e.0) ys) fit' in
    let p = continued (map LiteralText xs) in
    let q = continued (map LiteralText ys) in
    let opened : (codes ", " ++ (LiteralText x ++ p)) ++ 93 ∷ r ≡ (codes ", " ++ (LiteralText y ++ q)) ++ 93 ∷ s = same in
    let first = item_once e x y p q (93 ∷ r) (93 ∷ s) left.0 right.0 (more_stops xs 93 r refl) (more_stops ys 93 s refl) (past_comma (LiteralText x ++ p) (LiteralText y ++ q) (93 ∷ r) (93 ∷ s) opened) in
    join x y xs ys r s first.0 (elements_more e xs ys r s left.1 right.1 first.1)

-- a literal begins with one of its own bytes
pub literal_first : (ty : SqlType) (x : Value) (p : List ℕ) → fits ty x ≡ true → opening (first_of (LiteralText x ++ p)) ≡ true
literal_first ty x p fit = ap (λ z. opening (first_of (z ++ p))) (literal_opens x) ∙ first_at (out-SqlType ty) (out-Value x) p (sym (fits_opens ty x) ∙ fit)

-- behind a first literal
list_first : (ty : SqlType) (x : Value) (p r : List ℕ) → fits ty x ≡ true → opening (first_of ((LiteralText x ++ p) ++ r)) ≡ true
list_first ty x p r fit = ap (λ z. opening (first_of z)) (append_assoc (LiteralText x) p r) ∙ literal_first ty x (p ++ r) fit

elements_once : (e : With) (xs ys : List Value) (r s : List ℕ) → list_all (fits e.0) xs ≡ true → list_all (fits e.0) ys ≡ true
    → joined (map LiteralText xs) ++ 93 ∷ r ≡ joined (map LiteralText ys) ++ 93 ∷ s → (xs ≡ ys) × (r ≡ s)
elements_once e [] [] r s fit fit' same = (refl, cc)
elements_once e [] (y ∷ ys) r s fit fit' same =
    let right = and_parts (fits e.0 y) (list_all (fits e.0) ys) fit' in
    absurd (false≢true (ap (λ z. opening (first_of z)) same ∙ list_first e.0 y (continued (map LiteralText ys)) (93 ∷ s) right.0))
elements_once e (x ∷ xs) [] r s fit fit' same =
    let left = and_parts (fits e.0 x) (list_all (fits e.0) xs) fit in
    absurd (false≢true (ap (λ z. opening (first_of z)) (sym same) ∙ list_first e.0 x (continued (map LiteralText xs)) (93 ∷ r) left.0))
elements_once e (x ∷ xs) (y ∷ ys) r s fit fit' same =
    let left = and_parts (fits e.0 x) (list_all (fits e.0) xs) fit in
    let right = and_parts (fits e.0 y) (list_all (fits e.0) ys) fit' in
    let p = continued (map LiteralText xs) in
    let q = continued (map LiteralText ys) in
    let first = item_once e x y p q (93 ∷ r) (93 ∷ s) left.0 right.0 (more_stops xs 93 r refl) (more_stops ys 93 s refl) same in
    join x y xs ys r s first.0 (elements_more e xs ys r s left.1 right.1 first.1)

-- a list between its marks
inside : (before p q r s : List ℕ) (z : ℕ) → ((before ++ p) ++ z ∷ []) ++ r ≡ ((before ++ q) ++ z ∷ []) ++ s → p ++ z ∷ r ≡ q ++ z ∷ s
inside before p q r s z e =
    append_cancel_left before (p ++ z ∷ r) (q ++ z ∷ s)
    (sym (append_assoc before p (z ∷ r)) ∙ sym (append_assoc (before ++ p) (z ∷ []) r) ∙ e ∙ append_assoc (before ++ q) (z ∷ []) s ∙ append_assoc before q (z ∷ s))

pub array_once : (e : With) (xs ys : List Value) (r s : List ℕ) → list_all (fits e.0) xs ≡ true → list_all (fits e.0) ys ≡ true
    → literal_at (v.Array xs) ++ r ≡ literal_at (v.Array ys) ++ s → (xs ≡ ys) × (r ≡ s)
array_once e xs ys r s fit fit' same = elements_once e xs ys r s fit fit' (inside (codes "[") (joined (map LiteralText xs)) (joined (map LiteralText ys)) r s 93 same)

pub struct_once : (fs : List (Named With)) (xs ys : List Value) (r s : List ℕ) → fits_row (bare_fields fs) xs ≡ true → fits_row (bare_fields fs) ys ≡ true
    → literal_at (v.Struct xs) ++ r ≡ literal_at (v.Struct ys) ++ s → (xs ≡ ys) × (r ≡ s)
struct_once fs xs ys r s fit fit' same = fields_once 41 refl fs xs ys r s fit fit' (inside (codes "STRUCT(") (joined (map LiteralText xs)) (joined (map LiteralText ys)) r s 41 same)
