-- What may be said of lists that may be added to a call.
use Rattle.std.proofs.Common.{◌≡◌, ℕ, zero, suc, ◌-◌, Bool, true, List, [], ◌∷◌, ◌++◌, map, length, drop, refl, ap, sym, ◌∙◌, subst, arith, inl, inr, None}
use Rattle.std.specs.Prelude.{◌⊎◌, codes}
use Rattle.std.specs.List.{Contains, list_all}
use Rattle.std.specs.Str.{is_utf8, chars}
use lib.Utf8.{encode}
use Rattle.std.proofs.lemmas.Bool.{false≢true}
use Rattle.sql_types.specs.declared.sql_type.Named.{Named}
use Rattle.sql_types.specs.declared.sql_type.SqlType.{SqlType}
use Rattle.sql_types.specs.declared.sql_type.SqlType.TheVariants as ty
use Rattle.sql_types.specs.declared.sql_type.SqlType.TheOpen as t
use Rattle.sql_types.specs.declared.value.Value.{Value}
use Rattle.sql_types.specs.declared.value.Value.TheVariants as value
use Rattle.sql_types.specs.declared.value.Value.TheOpen as v
use Rattle.sql_types.specs.declared.kinds.SortItem.{SortItem}
use Rattle.sql_types.specs.Comparable.{orderable}
use Rattle.sql_types.specs.Fits.{fits, fits_row}
use Rattle.sql_types.specs.Sorting.{orders_column, orders_columns}
use Rattle.sql_types.specs.Takes.{fits_types}
use Rattle.sql_types.proofs.TestParts.{first as left_of, second as right_of}
use Rattle.sql_types.proofs.ValueOpens.{fits_by}
use Rattle.sql_aggregates.specs.declared.call.AggName.{AggName}
use Rattle.sql_aggregates.specs.declared.call.AggName.TheVariants as name
use Rattle.sql_aggregates.specs.declared.call.AggCall.{AggCall}
use Rattle.sql_aggregates.specs.Lists.{first}
use Rattle.sql_aggregates.specs.Calls.{TakesTypes, takes_rows, takes_any, takes_truths, takes_signed, takes_unsigned, takes_least, takes_greatest, takes_and, takes_or, takes_texts, takes_separator, takes_elements, takes_one, all_orderable, places_from, AllAddable}
use Rattle.sql_aggregates.specs.Aggregates.{separator, arguments}
use Rattle.sql_aggregates.specs.Sortable.{Sortable}

-- ---- lists among others

pub none_addable : (call : AggCall) → AllAddable call []
none_addable call = record {
  argument_types = [];
  sort_types = [];
  each = λ list c. absurd (omega (arith, c.1));
  separators = λ two one other c d. absurd (omega (arith, c.1));
}

pub addable_among : (call : AggCall) (lists some : List (List Value)) → AllAddable call lists → ((x : List Value) → Contains some x → Contains lists x) → AllAddable call some
addable_among call lists some addable among = record {
  argument_types = addable.argument_types;
  sort_types = addable.sort_types;
  each = λ list c. addable.each list (among list c);
  separators = λ two one other c d. addable.separators two one other (among one c) (among other d);
}

pub all_by_each : {A : Type 0} (test : A → Bool) (xs : List A) → ((x : A) → Contains xs x → test x ≡ true) → list_all test xs ≡ true
all_by_each test [] each = refl
all_by_each test (x ∷ xs) each =
    let here : test x ≡ true = each x (0, omega arith, refl) in
    let more : list_all test xs ≡ true = all_by_each test xs (λ y c. each y (suc c.0, omega (arith, c.1), c.2)) in
    rw (here, more) refl

-- ---- ORDER BY

abbrev column : SqlType → Named SqlType
column type = record { name = None; ty = type }

row_fits : (types : List SqlType) (list : List Value) → fits_types types list ≡ true → fits_row (map column types) list ≡ true
row_fits [] [] fit = refl
row_fits [] (x ∷ xs) fit = fit
row_fits (s ∷ types) [] fit = fit
row_fits (s ∷ types) (x ∷ xs) fit =
    let here : fits s x ≡ true = left_of _ _ fit in
    let more : fits_row (map column types) xs ≡ true = row_fits types xs (right_of _ _ fit) in
    rw (here, more) refl

behind : (before types : List SqlType) → drop (length before) (map column (before ++ types)) ≡ map column types
behind [] types = refl
behind (s ∷ before) types = behind before types

orders_at : (columns : List (Named SqlType)) (place : ℕ) (c : Named SqlType) (rest : List (Named SqlType)) → drop place columns ≡ c ∷ rest → orders_column columns place ≡ orderable c.ty
orders_at [] zero c rest at = cc
orders_at [] (suc place) c rest at = cc
orders_at (d ∷ columns) zero c rest at = ap orderable (cc)
orders_at (d ∷ columns) (suc place) c rest at = orders_at columns place c rest at

rest_at : (columns : List (Named SqlType)) (place : ℕ) (c : Named SqlType) (rest : List (Named SqlType)) → drop place columns ≡ c ∷ rest → drop (suc place) columns ≡ rest
rest_at [] zero c rest at = cc
rest_at [] (suc place) c rest at = cc
rest_at (d ∷ columns) zero c rest at = cc
rest_at (d ∷ columns) (suc place) c rest at = rest_at columns place c rest at

items_order : (columns : List (Named SqlType)) (place : ℕ) (types : List SqlType) (items : List SortItem) → drop place columns ≡ map column types → length types ≡ length items → all_orderable types ≡ true → places_from place items → orders_columns columns items ≡ true
items_order columns place types [] at long orders places = refl
items_order columns place [] (item ∷ items) at long orders places = absurd (omega arith)
items_order columns place (s ∷ types) (item ∷ items) at long orders places =
    let here : orders_column columns item.place ≡ true = ap (orders_column columns) places.0 ∙ orders_at columns place (column s) (map column types) at ∙ left_of _ _ orders in
    let more : orders_columns columns items ≡ true = items_order columns (suc place) types items (rest_at columns place (column s) (map column types) at) (omega arith) (right_of _ _ orders) places.1 in
    rw (here, more) refl

sortable_one : (call : AggCall) (lists : List (List Value)) (addable : AllAddable call lists) (list : List Value) → Contains lists list → orders_columns (map column (addable.argument_types ++ addable.sort_types)) call.order ≡ true
sortable_one call lists addable list c =
    let one = addable.each list c in
    items_order _ (length addable.argument_types) addable.sort_types call.order (behind addable.argument_types addable.sort_types) one.sorts one.orderable_sorts one.places

-- where nothing was added the items may be any
nothing_sortable : (items : List SortItem) → orders_columns [] items ≡ true
nothing_sortable [] = refl
nothing_sortable (item ∷ items) = nothing_sortable items

pub sortable : (call : AggCall) (lists : List (List Value)) → AllAddable call lists → Sortable call.order lists
sortable call [] addable = record { columns = []; orders = nothing_sortable call.order; fit = refl }
sortable call (list ∷ lists) addable = record {
  columns = map column (addable.argument_types ++ addable.sort_types);
  orders = sortable_one call (list ∷ lists) addable list (0, omega arith, refl);
  fit = all_by_each _ (list ∷ lists) (λ x c. row_fits _ x (addable.each x c).values);
}

-- ---- STRING_AGG

text_types : (n : AggName) (types : List SqlType) → TakesTypes n types → n ≡ name.StringAgg → (types ≡ ty.Text ∷ []) ⊎ (types ≡ ty.Text ∷ ty.Text ∷ [])
text_types n types takes_rows e = cc
text_types n types takes_any e = cc
text_types n types takes_truths e = cc
text_types n types takes_signed e = cc
text_types n types takes_unsigned e = cc
text_types n types (takes_least o) e = cc
text_types n types (takes_greatest o) e = cc
text_types n types takes_and e = cc
text_types n types takes_or e = cc
text_types n types takes_texts e = inl refl
text_types n types takes_separator e = inr refl
text_types n types (takes_elements o) e = cc
text_types n types takes_one e = cc

first_fits : (s : SqlType) (types : List SqlType) (list : List Value) → fits_types (s ∷ types) list ≡ true → fits s (first list) ≡ true
first_fits s types [] fit = absurd (false≢true fit)
first_fits s types (x ∷ xs) fit = left_of _ _ fit

comma_fits : fits ty.Text (value.Text (codes ",")) ≡ true
unfolding is_utf8 chars encode
comma_fits = fits_by ty.Text (value.Text (codes ",")) t.Text (v.Text (codes ",")) ty.outs-Text (value.outs-Text (codes ","))

types_long : (types : List SqlType) (list : List Value) → fits_types types list ≡ true → length list ≡ length types
types_long [] [] fit = refl
types_long [] (x ∷ xs) fit = absurd (false≢true fit)
types_long (s ∷ types) [] fit = absurd (false≢true fit)
types_long (s ∷ types) (x ∷ xs) fit = ap suc (types_long types xs (right_of _ _ fit))

-- without a second argument the separator is a comma
one_text : (sorts : List SqlType) (list : List Value) → fits_types (ty.Text ∷ sorts) list ≡ true → (n : ℕ) → n ≡ length sorts → fits ty.Text (separator (arguments n list)) ≡ true
one_text sorts [] fit n long = absurd (false≢true fit)
one_text sorts (x ∷ xs) fit n long =
    let all = types_long (ty.Text ∷ sorts) (x ∷ xs) fit in
    let one : length (x ∷ xs) - n ≡ 1 = omega arith in
    rw one comma_fits

two_texts : (sorts : List SqlType) (list : List Value) → fits_types (ty.Text ∷ ty.Text ∷ sorts) list ≡ true → (n : ℕ) → n ≡ length sorts → fits ty.Text (separator (arguments n list)) ≡ true
two_texts sorts [] fit n long = absurd (false≢true fit)
two_texts sorts (x ∷ []) fit n long = absurd (false≢true (right_of _ _ fit))
two_texts sorts (x ∷ s ∷ xs) fit n long =
    let all = types_long (ty.Text ∷ ty.Text ∷ sorts) (x ∷ s ∷ xs) fit in
    let two : length (x ∷ s ∷ xs) - n ≡ 2 = omega arith in
    rw two (left_of _ _ (right_of _ _ fit))

abbrev IsTexts : ℕ → List Value → Type 0
IsTexts n list = (fits ty.Text (first list) ≡ true) × (fits ty.Text (separator (arguments n list)) ≡ true)

texts_by : (types sorts : List SqlType) (list : List Value) (n : ℕ) → n ≡ length sorts → fits_types (types ++ sorts) list ≡ true → (types ≡ ty.Text ∷ []) ⊎ (types ≡ ty.Text ∷ ty.Text ∷ []) → IsTexts n list
texts_by types sorts list n long fit (inl one) =
    let fit_one : fits_types (ty.Text ∷ sorts) list ≡ true = subst (λ z. fits_types (z ++ sorts) list ≡ true) one fit in
    (first_fits ty.Text sorts list fit_one, one_text sorts list fit_one n long)
texts_by types sorts list n long fit (inr two) =
    let fit_two : fits_types (ty.Text ∷ ty.Text ∷ sorts) list ≡ true = subst (λ z. fits_types (z ++ sorts) list ≡ true) two fit in
    (first_fits ty.Text (ty.Text ∷ sorts) list fit_two, two_texts sorts list fit_two n long)

pub is_texts : (call : AggCall) (lists : List (List Value)) → AllAddable call lists → call.name ≡ name.StringAgg → (list : List Value) → Contains lists list → IsTexts (length call.order) list
is_texts call lists addable named list c =
    let one = addable.each list c in
    texts_by addable.argument_types addable.sort_types list (length call.order) (sym one.sorts) one.values (text_types call.name addable.argument_types one.taken named)

firsts_fit : (call : AggCall) (lists some : List (List Value)) → AllAddable call lists → call.name ≡ name.StringAgg → ((x : List Value) → Contains some x → Contains lists x) → list_all (fits ty.Text) (map first some) ≡ true
firsts_fit call lists [] addable named among = refl
firsts_fit call lists (list ∷ some) addable named among =
    let here : fits ty.Text (first list) ≡ true = (is_texts call lists addable named list (among list (0, omega arith, refl))).0 in
    let more : list_all (fits ty.Text) (map first some) ≡ true = firsts_fit call lists some addable named (λ x c. among x (suc c.0, omega (arith, c.1), c.2)) in
    rw (here, more) refl

pub texts_fit : (call : AggCall) (lists : List (List Value)) → AllAddable call lists → call.name ≡ name.StringAgg → list_all (fits ty.Text) (map first lists) ≡ true
texts_fit call lists addable named = firsts_fit call lists lists addable named (λ x c. c)
