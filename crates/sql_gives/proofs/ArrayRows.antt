-- What the rows on arrays give: arrays of the same elements, an element, a number of elements, or a truth value.
use Rattle.std.proofs.Common.{◌≡◌, true, List, [], ◌∷◌, length, reverse, Ok, refl}
use Rattle.std.specs.List.{list_all}
use Rattle.sql_types.specs.declared.sql_type.SqlType.{SqlType}
use Rattle.sql_types.specs.declared.sql_type.SqlType.TheVariants as ty
use Rattle.sql_types.specs.declared.sql_type.SqlType.TheOpen as t
use Rattle.sql_types.specs.declared.value.Value.{Value, out-Value}
use Rattle.sql_types.specs.declared.value.Value.TheVariants as value
use Rattle.sql_types.specs.declared.value.Value.TheOpen as v
use Rattle.sql_types.specs.Fits.{fits}
use Rattle.sql_types.specs.Takes.{elements, elements_layer, all_fit}
use Rattle.sql_types.proofs.ValueOpens.{fits_at}
use Rattle.sql_types.proofs.TestParts.{first as left_of, second as right_of}
use Rattle.sql_numbers.specs.Arrays as a
use Rattle.sql_gives.proofs.EachPasses.{all_append, all_reverse}
use Rattle.sql_gives.proofs.GivesLaws.{Gives, null_fits, strict_gives, bool_fits, count_gives, array_fits, at_form}

-- the elements of an array that fits fit the element type
elements_form : (s : SqlType) (x : v.Value-F Value) → fits_at (t.Array s) x ≡ true → list_all (fits s) (elements_layer x) ≡ true
elements_form s (v.Array xs) fit = fit
elements_form s _ fit = refl

pub elements_fit : (s : SqlType) (x : Value) → fits (ty.Array s) x ≡ true → list_all (fits s) (elements x) ≡ true
elements_fit s x fit = elements_form s (out-Value x) (at_form (ty.Array s) (t.Array s) x (ty.outs-Array s) fit)

pub length_gives : (values : List Value) → Gives ty.Int64 (a.apply_array_length values)
length_gives values = strict_gives ty.Int64 a.length_row values (row values)
  where
    row : (values : List Value) → Gives ty.Int64 (a.length_row values)
    row (xs ∷ []) = count_gives (length (elements xs))
    row _ = null_fits ty.Int64

pub includes_gives : (values : List Value) → Gives ty.Bool (a.apply_array_includes values)
includes_gives values = strict_gives ty.Bool a.includes_row values (row values)
  where
    row : (values : List Value) → Gives ty.Bool (a.includes_row values)
    row (xs ∷ x ∷ []) = bool_fits (a.some_equal x (elements xs))
    row _ = null_fits ty.Bool

-- ---- an element

first_of_gives : (s : SqlType) (xs : List Value) → list_all (fits s) xs ≡ true → Gives s (a.first_of xs)
first_of_gives s [] all = tt
first_of_gives s (x ∷ xs) all = left_of (fits s x) _ all

pub first_gives : (s : SqlType) (values : List Value) → all_fit (ty.Array s) values ≡ true → Gives s (a.apply_array_first values)
first_gives s values fit = strict_gives s a.first_row values (row values fit)
  where
    row : (values : List Value) → all_fit (ty.Array s) values ≡ true → Gives s (a.first_row values)
    row (x ∷ []) fit = first_of_gives s (elements x) (elements_fit s x (left_of (fits (ty.Array s) x) _ fit))
    row _ fit = null_fits s

pub last_gives : (s : SqlType) (values : List Value) → all_fit (ty.Array s) values ≡ true → Gives s (a.apply_array_last values)
last_gives s values fit = strict_gives s a.last_row values (row values fit)
  where
    row : (values : List Value) → all_fit (ty.Array s) values ≡ true → Gives s (a.last_row values)
    row (x ∷ []) fit = first_of_gives s (reverse (elements x)) (all_reverse (fits s) (elements x) (elements_fit s x (left_of (fits (ty.Array s) x) _ fit)))
    row _ fit = null_fits s

-- ---- arrays

all_elements_fit : (s : SqlType) (values : List Value) → all_fit (ty.Array s) values ≡ true → list_all (fits s) (a.all_elements values) ≡ true
all_elements_fit s [] fit = refl
all_elements_fit s (x ∷ xs) fit =
    all_append (fits s) (elements x) (a.all_elements xs) (elements_fit s x (left_of (fits (ty.Array s) x) _ fit)) (all_elements_fit s xs (right_of (fits (ty.Array s) x) _ fit))

pub concat_gives : (s : SqlType) (values : List Value) → all_fit (ty.Array s) values ≡ true → Gives (ty.Array s) (a.apply_array_concat values)
concat_gives s values fit = strict_gives (ty.Array s) (λ xs. Ok (value.Array (a.all_elements xs))) values (array_fits s (a.all_elements values) (all_elements_fit s values fit))

pub reverse_gives : (s : SqlType) (values : List Value) → all_fit (ty.Array s) values ≡ true → Gives (ty.Array s) (a.apply_array_reverse values)
reverse_gives s values fit = strict_gives (ty.Array s) a.reverse_row values (row values fit)
  where
    row : (values : List Value) → all_fit (ty.Array s) values ≡ true → Gives (ty.Array s) (a.reverse_row values)
    row (x ∷ []) fit = array_fits s (reverse (elements x)) (all_reverse (fits s) (elements x) (elements_fit s x (left_of (fits (ty.Array s) x) _ fit)))
    row _ fit = null_fits (ty.Array s)
