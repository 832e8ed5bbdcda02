-- The dates in a value that fits a type lie in DATE's range.
use Rattle.std.proofs.Common.{◌≡◌, Bool, true, false, ◌&&◌, List, [], ◌∷◌, map, refl, ap, sym, subst, ◌∙◌}
use Rattle.std.specs.List.{list_all}
use Rattle.std.proofs.lemmas.Bool.{false≢true}
use Rattle.sql_types.specs.declared.sql_type.Named.{Named}
use Rattle.sql_types.specs.declared.sql_type.SqlType.{SqlType, map-SqlType, out-SqlType}
use Rattle.sql_types.specs.declared.sql_type.SqlType.TheOpen as t
use Rattle.sql_types.specs.declared.sql_type.SqlType.TheShapes as shapes
use Rattle.sql_types.specs.declared.value.Value.{Value, map-Value, roll-Value, out-roll-Value, fold-roll-Value, ind-Value}
use Rattle.sql_types.specs.declared.value.Value.TheOpen as v
use Rattle.sql_types.specs.Fits.{fits, fits_layer, fits_fields, fits_row}
use Rattle.sql_types.proofs.Opens.{fits-opens}
use Rattle.sql_ast.specs.Literals.{dates_fit, dates_layer}

abbrev IsDated : Value → Type 0
IsDated x = (ty : SqlType) → fits ty x ≡ true → dates_fit x ≡ true

first_of_both : (a b : Bool) → (a && b) ≡ true → a ≡ true
first_of_both true b h = refl
first_of_both false b h = h

second_of_both : (a b : Bool) → (a && b) ≡ true → b ≡ true
second_of_both true b h = h
second_of_both false b h = absurd (false≢true h)

both_of : (a b : Bool) → a ≡ true → b ≡ true → (a && b) ≡ true
both_of true b first second = second
both_of false b first second = first

elements_dated : (element : SqlType) (parts : List ((x : Value) × IsDated x)) → list_all (fits element) (map (λ e. e.0) parts) ≡ true → list_all (λ fit. fit) (map dates_fit (map (λ e. e.0) parts)) ≡ true
elements_dated element [] fit = refl
elements_dated element (p ∷ parts) fit =
    let rest = list_all (fits element) (map (λ (e : (x : Value) × IsDated x). e.0) parts) in
    both_of _ _ (p.1 element (first_of_both (fits element p.0) rest fit)) (elements_dated element parts (second_of_both (fits element p.0) rest fit))

abbrev field_fits : Named SqlType → Named (Value → Bool)
field_fits = shapes.former-SqlType-Struct-0-at-2.map SqlType (Value → Bool) fits

fields_dated : (fields : List (Named SqlType)) (parts : List ((x : Value) × IsDated x)) → fits_fields (map field_fits fields) (map (λ e. e.0) parts) ≡ true → list_all (λ fit. fit) (map dates_fit (map (λ e. e.0) parts)) ≡ true
fields_dated [] [] fit = refl
fields_dated [] (p ∷ parts) fit = absurd (false≢true fit)
fields_dated (f ∷ fields) [] fit = absurd (false≢true fit)
fields_dated (f ∷ fields) (p ∷ parts) fit =
    let rest = fits_fields (map field_fits fields) (map (λ (e : (x : Value) × IsDated x). e.0) parts) in
    both_of _ _ (p.1 f.ty (first_of_both (fits f.ty p.0) rest fit)) (fields_dated fields parts (second_of_both (fits f.ty p.0) rest fit))

parts_dated : (form : t.SqlType-F SqlType) (parts : v.Value-F ((x : Value) × IsDated x)) → fits_layer (map-SqlType SqlType (Value → Bool) fits form) (map-Value ((x : Value) × IsDated x) Value (λ e. e.0) parts) ≡ true
    → dates_layer (map-Value Value Bool dates_fit (map-Value ((x : Value) × IsDated x) Value (λ e. e.0) parts)) ≡ true
parts_dated t.Date (v.Date day) fit = fit
parts_dated (t.Array element) (v.Array parts) fit = elements_dated element parts fit
parts_dated (t.Struct fields) (v.Struct parts) fit = fields_dated fields parts fit
parts_dated _ v.Null fit = refl
parts_dated _ (v.Bool b) fit = refl
parts_dated _ (v.Int n) fit = refl
parts_dated _ (v.Uint n) fit = refl
parts_dated _ (v.Text bytes) fit = refl
parts_dated _ (v.Bytes bytes) fit = refl
parts_dated _ _ fit = absurd (false≢true fit)

rolled_dated : (x : v.Value-F Value) → ((form : t.SqlType-F SqlType) → fits_layer (map-SqlType SqlType (Value → Bool) fits form) x ≡ true → dates_layer (map-Value Value Bool dates_fit x) ≡ true) → IsDated (roll-Value x)
unfolding dates_fit
rolled_dated x dated ty fit =
    fold-roll-Value Bool dates_layer x
    ∙ dated (out-SqlType ty) (ap (fits_layer (map-SqlType SqlType (Value → Bool) fits (out-SqlType ty))) (sym (out-roll-Value x)) ∙ sym (fits-opens ty (roll-Value x)) ∙ fit)

pub fits_dated : (x : Value) → IsDated x
fits_dated = ind-Value IsDated (λ x parts is. subst (λ z. IsDated (roll-Value z)) is (rolled_dated _ (λ form. parts_dated form parts)))

row_dated : (columns : List (Named SqlType)) (row : List Value) → fits_row columns row ≡ true → list_all dates_fit row ≡ true
row_dated [] [] fit = refl
row_dated [] (x ∷ row) fit = absurd (false≢true fit)
row_dated (c ∷ columns) [] fit = absurd (false≢true fit)
row_dated (c ∷ columns) (x ∷ row) fit =
    both_of _ _ (fits_dated x c.ty (first_of_both (fits c.ty x) (fits_row columns row) fit)) (row_dated columns row (second_of_both (fits c.ty x) (fits_row columns row) fit))

pub rows_dated : (columns : List (Named SqlType)) (rows : List (List Value)) → list_all (fits_row columns) rows ≡ true → list_all (λ row. list_all dates_fit row) rows ≡ true
rows_dated columns [] fit = refl
rows_dated columns (row ∷ rows) fit =
    both_of _ _ (row_dated columns row (first_of_both (fits_row columns row) (list_all (fits_row columns) rows) fit))
    (rows_dated columns rows (second_of_both (fits_row columns row) (list_all (fits_row columns) rows) fit))
