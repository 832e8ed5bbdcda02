-- Arrays, STRUCTs and casts: what is made of fitting parts fits, and so do the parts of what fits.
use Rattle.std.proofs.Common.{◌≡◌, ℕ, zero, suc, Bool, true, false, List, [], ◌∷◌, map, length, Option, None, Some, Ok, Err, refl, sym, ap, subst, ◌∙◌, arith}
use Rattle.std.specs.Prelude.{ℤ, ◌==◌, slice_get, slice_index_or}
use Rattle.std.specs.List.{list_all}
use Rattle.sql_types.specs.declared.sql_type.Named.{Named}
use Rattle.sql_types.specs.declared.sql_type.SqlType.{SqlType, out-SqlType}
use Rattle.sql_types.specs.declared.sql_type.SqlType.TheOpen as t
use Rattle.sql_types.specs.declared.value.Value.{Value, out-Value}
use Rattle.sql_types.specs.declared.value.Value.TheOpen as v
use Rattle.sql_types.specs.declared.value.Value.TheVariants as value
use Rattle.sql_types.specs.Fits.{fits, fits_row}
use Rattle.sql_types.specs.Outcome.{Outcome}
use Rattle.sql_types.specs.SameType.{same_type}
use Rattle.sql_types.specs.Takes.{elements, elements_layer, fits_types, number}
use Rattle.sql_types.proofs.ValueOpens.{fits_at, fits_opens, fits_by}
use Rattle.sql_ast.specs.declared.expr.IndexForm.{IndexForm}
use Rattle.sql_ast.specs.declared.expr.IndexForm.TheVariants as form
use Rattle.sql_numbers.specs.Integers.{or_null}
use Rattle.sql_coerce.specs.Casts.{castable, converted}
use Rattle.sql_coerce.proofs.ConvertedLaws.{converted_fits}
use Rattle.sql_gives.proofs.GivesLaws.{null_fits}
use Rattle.sql_forms.specs.Conditions.{is_null_value}
use Rattle.sql_forms.specs.Rows.{single}
use Rattle.sql_forms.specs.Subscripts.{field_layer, field_at, before_element, outside, element_at, subscript}
use Rattle.sql_types.specs.Parted.{Each}
use Rattle.resolved_ast.specs.Columns.{element_layer, element_of}
use Rattle.resolved_ast.specs.Flaws.{all_of_type, fields_layer, is_type, has_field, struct_typed, struct_shaped, array_typed}
use Rattle.resolved_ast.specs.Signatures.{typed_as}
use Rattle.resolved_ast.proofs.FitLaws.{first_of, second_of}
use Rattle.tree_fits.proofs.WalkTypes.{number_same}
use Rattle.tree_fits.proofs.Lists.{and_so, all_of_each}
use Rattle.tree_fits.proofs.SameTypes.{same_type_is}
use Rattle.tree_fits.proofs.Sure.{OfOk}
use Rattle.tree_fits.proofs.FittingForms.{Of}

-- a value of the other type is one of the type
pub of_type : (type other : SqlType) (x : Value) → same_type type other ≡ true → fits other x ≡ true → fits type x ≡ true
of_type type other x same fit = subst (λ z. fits z x ≡ true) (sym (same_type_is type other same)) fit

-- the type that a test of an optional type says
pub is_type_of : (type : SqlType) (o : Option SqlType) → is_type type o ≡ true → o ≡ Some type
is_type_of type None is = cc
is_type_of type (Some other) is = ap Some (sym (same_type_is type other is))

-- ---- casts

converted_by : (from to : SqlType) (x : Value) → castable from to ≡ true → fits from x ≡ true → (o : Outcome Value) → converted from to x ≡ o → OfOk (Of to) o
converted_by from to x cast fit (Ok y) is = converted_fits from to x y cast fit is
converted_by from to x cast fit (Err fault) is = tt

pub converted_ok : (from to : SqlType) (x : Value) → castable from to ≡ true → fits from x ≡ true → OfOk (Of to) (converted from to x)
converted_ok from to x cast fit = converted_by from to x cast fit (converted from to x) refl

pub or_null_ok : (type : SqlType) (o : Outcome Value) → OfOk (Of type) o → OfOk (Of type) (or_null o)
or_null_ok type (Ok x) fit = fit
or_null_ok type (Err fault) fit = null_fits type

-- ---- arrays

array_form : (x : t.SqlType-F SqlType) (element : SqlType) → element_layer x ≡ Some element → x ≡ t.Array element
array_form (t.Array other) element is = ap t.Array (let same : other ≡ element = cc in same)
array_form t.Bool element is = cc
array_form _ element is = cc

elements_by : (element : SqlType) (x : v.Value-F Value) → fits_at (t.Array element) x ≡ true → list_all (fits element) (elements_layer x) ≡ true
elements_by element (v.Array xs) fit = fit
elements_by element v.Null fit = refl
elements_by element _ fit = refl

-- the elements of an array fit its element type
pub elements_fit : (array element : SqlType) (x : Value) → element_of array ≡ Some element → fits array x ≡ true → list_all (fits element) (elements x) ≡ true
elements_fit array element x is fit =
    elements_by element (out-Value x) (ap (λ z. fits_at z (out-Value x)) (sym (array_form (out-SqlType array) element is)) ∙ sym (fits_opens array x) ∙ fit)

pub array_of : (array element : SqlType) (xs : List Value) → element_of array ≡ Some element → list_all (fits element) xs ≡ true → fits array (value.Array xs) ≡ true
array_of array element xs is fit = fits_by array (value.Array xs) (t.Array element) (v.Array xs) (array_form (out-SqlType array) element is) (value.outs-Array xs) ∙ fit

all_fit : (element : SqlType) (types : List SqlType) (xs : List Value) → all_of_type element types ≡ true → fits_types types xs ≡ true → list_all (fits element) xs ≡ true
all_fit element [] [] same fit = refl
all_fit element [] (x ∷ xs) same fit = cc
all_fit element (type ∷ types) [] same fit = cc
all_fit element (type ∷ types) (x ∷ xs) same fit =
    and_so _ _ (of_type element type x (first_of _ _ same) (first_of _ _ fit)) (all_fit element types xs (second_of _ _ same) (second_of _ _ fit))

made_array : (array : SqlType) (types : List SqlType) (xs : List Value) (o : Option SqlType) → element_of array ≡ o → elim o [ None ↦ false | Some element ↦ all_of_type element types ] ≡ true →
    fits_types types xs ≡ true → fits array (value.Array xs) ≡ true
made_array array types xs None is typed fit = cc
made_array array types xs (Some element) is typed fit = array_of array element xs is (all_fit element types xs typed fit)

pub make_array_fits : (array : SqlType) (types : List SqlType) (xs : List Value) → array_typed array types ≡ true → fits_types types xs ≡ true → fits array (value.Array xs) ≡ true
make_array_fits array types xs typed fit = made_array array types xs (element_of array) refl typed fit

-- ---- elements of arrays

outside_ok : (type : SqlType) (f : IndexForm) → OfOk (Of type) (outside f)
outside_ok type form.Offset = tt
outside_ok type form.Ordinal = tt
outside_ok type form.SafeOffset = null_fits type
outside_ok type form.SafeOrdinal = null_fits type

get_ok : (type : SqlType) (f : IndexForm) (xs : List Value) (n : ℕ) → list_all (fits type) xs ≡ true → OfOk (Of type) (elim (slice_get xs n) [ None ↦ outside f | Some x ↦ Ok x ])
get_ok type f [] n fit = outside_ok type f
get_ok type f (x ∷ xs) zero fit = first_of _ _ fit
get_ok type f (x ∷ xs) (suc n) fit = get_ok type f xs n (second_of _ _ fit)

element_ok : (type : SqlType) (f : IndexForm) (xs : List Value) (o : Option ℕ) → list_all (fits type) xs ≡ true → OfOk (Of type) (element_at f xs o)
element_ok type f xs None fit = outside_ok type f
element_ok type f xs (Some n) fit = get_ok type f xs n fit

subscript_by : (type : SqlType) (f : IndexForm) (xs : List Value) (i : ℤ) (none no_place : Bool) → list_all (fits type) xs ≡ true →
    OfOk (Of type) (elim none [ true ↦ Ok value.Null | false ↦ elim no_place [ true ↦ Ok value.Null | false ↦ element_at f xs (before_element f i) ] ])
subscript_by type f xs i true no_place fit = null_fits type
subscript_by type f xs i false true fit = null_fits type
subscript_by type f xs i false false fit = element_ok type f xs (before_element f i) fit

pub subscript_ok : (type array : SqlType) (f : IndexForm) (xs i : Value) → is_type type (element_of array) ≡ true → fits array xs ≡ true → OfOk (Of type) (subscript f xs i)
subscript_ok type array f xs i is fit =
    subscript_by type f (elements xs) (number i) (is_null_value xs) (is_null_value i) (elements_fit array type xs (is_type_of type (element_of array) is) fit)

-- ---- STRUCTs

abbrev types_of_fields : List (Named SqlType) → List SqlType
types_of_fields fields = map (λ f. f.ty) fields

abbrev types_in : Option (List (Named SqlType)) → Option (List SqlType)
types_in None = None
types_in (Some fields) = Some (types_of_fields fields)

struct_form : (x : t.SqlType-F SqlType) (fields : List (Named SqlType)) → fields_layer x ≡ Some fields → x ≡ t.Struct fields
struct_form (t.Struct others) fields is = ap t.Struct (let same : others ≡ fields = cc in same)
struct_form t.Bool fields is = cc
struct_form _ fields is = cc

fields_fit : (fields : List (Named SqlType)) (types : List SqlType) (xs : List Value) → typed_as (types_of_fields fields) types ≡ true → length (types_of_fields fields) ≡ length types →
    fits_types types xs ≡ true → fits_row fields xs ≡ true
fields_fit [] [] [] typed as_many fit = refl
fields_fit [] [] (x ∷ xs) typed as_many fit = cc
fields_fit [] (type ∷ types) xs typed as_many fit = absurd (omega (arith, as_many))
fields_fit (f ∷ fields) [] xs typed as_many fit = absurd (omega (arith, as_many))
fields_fit (f ∷ fields) (type ∷ types) [] typed as_many fit = cc
fields_fit (f ∷ fields) (type ∷ types) (x ∷ xs) typed as_many fit =
    and_so _ _ (of_type f.ty type x (first_of _ _ typed) (first_of _ _ fit)) (fields_fit fields types xs (second_of _ _ typed) (omega (arith, as_many)) (second_of _ _ fit))

made_struct : (struct : SqlType) (types : List SqlType) (xs : List Value) (o : Option (List (Named SqlType))) → fields_layer (out-SqlType struct) ≡ o →
    elim (types_in o) [ None ↦ false | Some tos ↦ typed_as tos types ] ≡ true →
    elim (types_in o) [ None ↦ true | Some tos ↦ length tos == length types ] ≡ true →
    fits_types types xs ≡ true → fits struct (value.Struct xs) ≡ true
made_struct struct types xs None is typed shaped fit = cc
made_struct struct types xs (Some fields) is typed shaped fit =
    fits_by struct (value.Struct xs) (t.Struct fields) (v.Struct xs) (struct_form (out-SqlType struct) fields is) (value.outs-Struct xs)
    ∙ fields_fit fields types xs typed (number_same _ _ shaped) fit

pub make_struct_fits : (struct : SqlType) (types : List SqlType) (xs : List Value) → struct_typed struct types ≡ true → struct_shaped struct types ≡ true → fits_types types xs ≡ true →
    fits struct (value.Struct xs) ≡ true
make_struct_fits struct types xs typed shaped fit = made_struct struct types xs (fields_layer (out-SqlType struct)) refl typed shaped fit

place_fits : (type : SqlType) (fields : List (Named SqlType)) (xs : List Value) (place : ℕ) → slice_get (types_of_fields fields) place ≡ Some type → fits_row fields xs ≡ true →
    fits type (slice_index_or xs place value.Null) ≡ true
place_fits type [] xs place is fit = cc
place_fits type (f ∷ fields) [] place is fit = cc
place_fits type (f ∷ fields) (x ∷ xs) zero is fit = let same : f.ty ≡ type = cc in subst (λ z. fits z x ≡ true) same (first_of _ _ fit)
place_fits type (f ∷ fields) (x ∷ xs) (suc place) is fit = place_fits type fields xs place is (second_of _ _ fit)

field_by : (type : SqlType) (fields : List (Named SqlType)) (place : ℕ) (x : v.Value-F Value) → slice_get (types_of_fields fields) place ≡ Some type → fits_at (t.Struct fields) x ≡ true →
    fits type (field_layer place x) ≡ true
field_by type fields place (v.Struct xs) is fit = place_fits type fields xs place is fit
field_by type fields place v.Null is fit = null_fits type
field_by type fields place _ is fit = null_fits type

field_given : (type struct : SqlType) (place : ℕ) (x : Value) (o : Option (List (Named SqlType))) → fields_layer (out-SqlType struct) ≡ o →
    elim (types_in o) [ None ↦ false | Some types ↦ is_type type (slice_get types place) ] ≡ true →
    fits struct x ≡ true → fits type (field_at place x) ≡ true
field_given type struct place x None is typed fit = cc
field_given type struct place x (Some fields) is typed fit =
    field_by type fields place (out-Value x) (is_type_of type _ typed)
    (ap (λ z. fits_at z (out-Value x)) (sym (struct_form (out-SqlType struct) fields is)) ∙ sym (fits_opens struct x) ∙ fit)

pub field_fits : (type struct : SqlType) (place : ℕ) (x : Value) → has_field place type struct ≡ true → fits struct x ≡ true → fits type (field_at place x) ≡ true
field_fits type struct place x typed fit = field_given type struct place x (fields_layer (out-SqlType struct)) refl typed fit

-- ---- columns as values

pub single_ok : (type : SqlType) (xs : List Value) → Each (Of type) xs → OfOk (Of type) (single xs)
single_ok type [] each = null_fits type
single_ok type (x ∷ []) each = each.0
single_ok type (x ∷ y ∷ xs) each = tt

pub column_array : (array element : SqlType) (xs : List Value) → is_type element (element_of array) ≡ true → Each (Of element) xs → fits array (value.Array xs) ≡ true
column_array array element xs is each = array_of array element xs (is_type_of element (element_of array) is) (all_of_each (fits element) xs each)
