-- ARRAY_TO_STRING gives a STRING: the texts of elements that fit are UTF-8, and so is what joins them.
use Rattle.std.proofs.Common.{◌≡◌, ℕ, Bool, true, false, List, [], ◌∷◌, ◌++◌, Option, Some, None, refl}
use Rattle.std.specs.List.{list_all}
use Rattle.std.specs.Str.{IsUtf8, is_utf8}
use Rattle.std.proofs.lemmas.Str.{IsUtf8-nil, IsUtf8-append, IsUtf8-from_is_utf8, is_utf8-from_IsUtf8}
use Rattle.sql_types.specs.declared.sql_type.SqlType.TheVariants as ty
use Rattle.sql_types.specs.declared.value.Value.{Value, out-Value}
use Rattle.sql_types.specs.declared.value.Value.TheVariants as value
use Rattle.sql_types.specs.Before.{is_null}
use Rattle.sql_types.specs.Fits.{fits}
use Rattle.sql_types.specs.Takes.{content, elements, fits_types_or_less}
use Rattle.sql_types.proofs.TestParts.{first as left_of, second as right_of}
use Rattle.sql_strings.specs.Rows as s
use Rattle.sql_strings.specs.Texts.{continued_by, joined_by}
use Rattle.sql_gives.proofs.ArrayRows.{elements_fit}
use Rattle.sql_gives.proofs.EachPasses.{both}
use Rattle.sql_gives.proofs.GivesLaws.{Gives, null_fits, strict_gives}
use Rattle.sql_gives.proofs.SymbolLaws.{content_utf8, text_fits}

continued_utf8 : (separator : List ℕ) (texts : List (List ℕ)) → IsUtf8 separator → list_all is_utf8 texts ≡ true → IsUtf8 (continued_by separator texts)
continued_utf8 separator [] between all = IsUtf8-nil
continued_utf8 separator (text ∷ more) between all =
    IsUtf8-append (separator ++ text) (continued_by separator more) (IsUtf8-append separator text between (IsUtf8-from_is_utf8 text (left_of (is_utf8 text) _ all)))
    (continued_utf8 separator more between (right_of (is_utf8 text) _ all))

joined_utf8 : (separator : List ℕ) (texts : List (List ℕ)) → IsUtf8 separator → list_all is_utf8 texts ≡ true → IsUtf8 (joined_by separator texts)
joined_utf8 separator [] between all = IsUtf8-nil
joined_utf8 separator (text ∷ more) between all =
    IsUtf8-append text (continued_by separator more) (IsUtf8-from_is_utf8 text (left_of (is_utf8 text) _ all)) (continued_utf8 separator more between (right_of (is_utf8 text) _ all))

-- the text that stands for NULL, if there is one
abbrev Standing : Option (List ℕ) → Type 0
Standing None = Unit {0}
Standing (Some text) = IsUtf8 text

more_texts : (standing : Option (List ℕ)) (b : Bool) (text : List ℕ) (texts : List (List ℕ)) → Standing standing → is_utf8 text ≡ true → list_all is_utf8 texts ≡ true → list_all is_utf8 (elim b [ false ↦ text ∷ texts | true ↦ elim standing [ None ↦ texts | Some null_text ↦ null_text ∷ texts ] ]) ≡ true
more_texts standing false text texts stands is all = both (is_utf8 text) (list_all is_utf8 texts) is all
more_texts None true text texts stands is all = all
more_texts (Some null_text) true text texts stands is all = both (is_utf8 null_text) (list_all is_utf8 texts) (is_utf8-from_IsUtf8 null_text stands) all

element_texts_utf8 : (standing : Option (List ℕ)) (xs : List Value) → Standing standing → list_all (fits ty.Text) xs ≡ true → list_all is_utf8 (s.element_texts standing xs) ≡ true
element_texts_utf8 standing [] stands all = refl
element_texts_utf8 standing (x ∷ xs) stands all =
    more_texts standing (is_null (out-Value x)) (content x) (s.element_texts standing xs) stands
    (is_utf8-from_IsUtf8 (content x) (content_utf8 x (left_of (fits ty.Text x) _ all))) (element_texts_utf8 standing xs stands (right_of (fits ty.Text x) _ all))

array_text_fits : (standing : Option (List ℕ)) (xs separator : Value) → Standing standing → fits (ty.Array ty.Text) xs ≡ true → fits ty.Text separator ≡ true → fits ty.Text (value.Text (joined_by (content separator) (s.element_texts standing (elements xs)))) ≡ true
array_text_fits standing xs separator stands fit between =
    text_fits (joined_by (content separator) (s.element_texts standing (elements xs)))
    (joined_utf8 (content separator) (s.element_texts standing (elements xs)) (content_utf8 separator between) (element_texts_utf8 standing (elements xs) stands (elements_fit ty.Text xs fit)))

pub array_to_string_gives : (values : List Value) → fits_types_or_less (ty.Array ty.Text ∷ ty.Text ∷ []) ty.Text values ≡ true → Gives ty.Text (s.apply_array_to_string values)
array_to_string_gives values fit = strict_gives ty.Text s.array_to_string_row values (row values fit)
  where
    row : (values : List Value) → fits_types_or_less (ty.Array ty.Text ∷ ty.Text ∷ []) ty.Text values ≡ true → Gives ty.Text (s.array_to_string_row values)
    row (xs ∷ separator ∷ []) fit =
        let behind = right_of (fits (ty.Array ty.Text) xs) _ fit in
        array_text_fits None xs separator tt (left_of (fits (ty.Array ty.Text) xs) _ fit) (left_of (fits ty.Text separator) _ behind)
    row (xs ∷ separator ∷ null_text ∷ []) fit =
        let behind = right_of (fits (ty.Array ty.Text) xs) _ fit in
        let last = right_of (fits ty.Text separator) _ behind in
        array_text_fits (Some (content null_text)) xs separator (content_utf8 null_text (left_of (fits ty.Text null_text) _ last))
        (left_of (fits (ty.Array ty.Text) xs) _ fit) (left_of (fits ty.Text separator) _ behind)
    row _ fit = null_fits ty.Text
