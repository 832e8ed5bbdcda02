-- That the lists of the tests may be added.
use Rattle.std.proofs.Common.{◌≡◌, ℕ, true, false, List, [], ◌∷◌, ◌++◌, length, drop, refl, sym, ap, ◌∙◌, subst, arith, inl, inr, slice_index_or}
use Rattle.std.specs.Prelude.{◌⊎◌}
use Rattle.std.specs.List.{Contains}
use Rattle.std.proofs.lemmas.Bool.{false≢true}
use Rattle.std.proofs.lemmas.List.Elements.{Contains-push_cases}
use Rattle.sql_types.specs.declared.sql_type.SqlType.{SqlType}
use Rattle.sql_types.specs.declared.sql_type.SqlType.TheVariants as ty
use Rattle.sql_types.specs.declared.value.Value.{Value}
use Rattle.sql_types.specs.declared.value.Value.TheVariants.{Null}
use Rattle.sql_types.specs.Comparable.{groupable, orderable, orderable_layer}
use Rattle.sql_types.specs.Fits.{fits}
use Rattle.sql_types.specs.Takes.{fits_types}
use Rattle.sql_types.proofs.TestParts.{second as right_of}
use Rattle.sql_aggregates.specs.declared.call.AggName.{AggName}
use Rattle.sql_aggregates.specs.declared.call.AggName.TheVariants as name
use Rattle.sql_aggregates.specs.declared.call.AggCall.{AggCall}
use Rattle.sql_aggregates.specs.Lists.{first}
use Rattle.sql_aggregates.specs.Calls.{TakesTypes, takes_separator, takes_signed, takes_unsigned, takes_elements, is_array, lawful, places_from, each_same, AllAddable}

-- each list has a fitting value for each type
abbrev pub AllFit : List SqlType → List (List Value) → Type 0
AllFit types lists = (list : List Value) → Contains lists list → fits_types types list ≡ true

pub none_fit : (types : List SqlType) → AllFit types []
none_fit types list c = absurd (omega (arith, c.1))

by_place : (types : List SqlType) (lists : List (List Value)) (list x : List Value) → AllFit types lists → fits_types types list ≡ true → Contains lists x ⊎ (list ≡ x) → fits_types types x ≡ true
by_place types lists list x all fit (inl before) = all x before
by_place types lists list x all fit (inr last) = subst (λ l. fits_types types l ≡ true) last fit

pub one_more_fits : (types : List SqlType) (lists : List (List Value)) (list : List Value) → AllFit types lists → fits_types types list ≡ true → AllFit types (lists ++ list ∷ [])
one_more_fits types lists list all fit x c = by_place types lists list x all fit (Contains-push_cases lists list x c)

no_item : (call : AggCall) (place : ℕ) → call.order ≡ [] → places_from place call.order
no_item call place none = subst (places_from place) (sym none) tt

-- without sort items a list of one value has no sort value
alone : (type : SqlType) (list : List Value) → fits_types (type ∷ []) list ≡ true → each_same (first list) (drop 1 list)
alone type [] fit = absurd (false≢true fit)
alone type (x ∷ []) fit = tt
alone type (x ∷ y ∷ more) fit = absurd (false≢true (right_of _ _ fit))

pub singles_addable : (call : AggCall) (type : SqlType) (lists : List (List Value)) → call.order ≡ [] → TakesTypes call.name (type ∷ []) → groupable type ≡ true → AllFit (type ∷ []) lists → AllAddable call lists
singles_addable call type lists none takes groups all = record {
  argument_types = type ∷ [];
  sort_types = [];
  each = λ list c. record {
    taken = takes;
    sorts = sym (ap length none);
    orderable_sorts = refl;
    places = no_item call 1 none;
    values = all list c;
    distinct = λ distinct. (groups, alone type list (all list c));
  };
  separators = λ two one other c d. absurd (omega (arith, two));
}

pub rows_addable : (call : AggCall) (lists : List (List Value)) → call.order ≡ [] → TakesTypes call.name [] → call.distinct ≡ false → AllFit [] lists → AllAddable call lists
rows_addable call lists none takes plain all = record {
  argument_types = [];
  sort_types = [];
  each = λ list c. record {
    taken = takes;
    sorts = sym (ap length none);
    orderable_sorts = refl;
    places = no_item call 0 none;
    values = all list c;
    distinct = λ distinct. absurd (false≢true (sym plain ∙ distinct));
  };
  separators = λ two one other c d. absurd (omega (arith, two));
}

pub int_orders : orderable ty.Int64 ≡ true
int_orders = ap orderable_layer ty.outs-Int64

pub pairs_addable : (call : AggCall) (lists : List (List Value)) → call.name ≡ name.ArrayAgg → call.distinct ≡ false → length call.order ≡ 1 → places_from 1 call.order → AllFit (ty.Int64 ∷ ty.Int64 ∷ []) lists → AllAddable call lists
pairs_addable call lists named plain one places all = record {
  argument_types = ty.Int64 ∷ [];
  sort_types = ty.Int64 ∷ [];
  each = λ list c. record {
    taken = subst (λ n. TakesTypes n (ty.Int64 ∷ [])) (sym named) (takes_elements (ap is_array ty.outs-Int64));
    sorts = sym one;
    orderable_sorts = rw (int_orders) refl;
    places = places;
    values = all list c;
    distinct = λ distinct. absurd (false≢true (sym plain ∙ distinct));
  };
  separators = λ two one other c d. absurd (omega (arith, two));
}

pub array_lawful : (call : AggCall) → call.name ≡ name.ArrayAgg → lawful call ≡ true
array_lawful call named = rw named refl

-- each list has this second value
abbrev pub EachSecond : Value → List (List Value) → Type 0
EachSecond second lists = (list : List Value) → Contains lists list → slice_index_or list 1 Null ≡ second

pub none_second : (second : Value) → EachSecond second []
none_second second list c = absurd (omega (arith, c.1))

second_by_place : (second : Value) (lists : List (List Value)) (list x : List Value) → EachSecond second lists → slice_index_or list 1 Null ≡ second → Contains lists x ⊎ (list ≡ x) → slice_index_or x 1 Null ≡ second
second_by_place second lists list x all here (inl before) = all x before
second_by_place second lists list x all here (inr last) = subst (λ l. slice_index_or l 1 Null ≡ second) last here

pub one_more_second : (second : Value) (lists : List (List Value)) (list : List Value) → EachSecond second lists → slice_index_or list 1 Null ≡ second → EachSecond second (lists ++ list ∷ [])
one_more_second second lists list all here x c = second_by_place second lists list x all here (Contains-push_cases lists list x c)

pub texts_addable : (call : AggCall) (second : Value) (lists : List (List Value)) → call.name ≡ name.StringAgg → call.distinct ≡ false → call.order ≡ [] → AllFit (ty.Text ∷ ty.Text ∷ []) lists → EachSecond second lists → AllAddable call lists
texts_addable call second lists named plain none all seconds = record {
  argument_types = ty.Text ∷ ty.Text ∷ [];
  sort_types = [];
  each = λ list c. record {
    taken = subst (λ n. TakesTypes n (ty.Text ∷ ty.Text ∷ [])) (sym named) takes_separator;
    sorts = sym (ap length none);
    orderable_sorts = refl;
    places = no_item call 2 none;
    values = all list c;
    distinct = λ distinct. absurd (false≢true (sym plain ∙ distinct));
  };
  separators = λ two one other c d. seconds one c ∙ sym (seconds other d);
}

pub two_fit : (s t : SqlType) (x y : Value) → fits s x ≡ true → fits t y ≡ true → fits_types (s ∷ t ∷ []) (x ∷ y ∷ []) ≡ true
two_fit s t x y one other = rw (one, other) refl

pub one_fits : (s : SqlType) (x : Value) → fits s x ≡ true → fits_types (s ∷ []) (x ∷ []) ≡ true
one_fits s x one = rw one refl

pub took : (n m : AggName) (s t : SqlType) → n ≡ m → s ≡ t → TakesTypes m (t ∷ []) → true ≡ true → TakesTypes n (s ∷ [])
took n m s t e f takes passed = subst (λ k. TakesTypes k (s ∷ [])) (sym e) (subst (λ k. TakesTypes m (k ∷ [])) (sym f) takes)

by_sum : (s : SqlType) → (s ≡ ty.Int64) ⊎ (s ≡ ty.Uint64) → TakesTypes name.Sum (s ∷ [])
by_sum s (inl signed) = subst (λ k. TakesTypes name.Sum (k ∷ [])) (sym signed) takes_signed
by_sum s (inr unsigned) = subst (λ k. TakesTypes name.Sum (k ∷ [])) (sym unsigned) takes_unsigned

pub took_sum : (n : AggName) (s : SqlType) → n ≡ name.Sum → (s ≡ ty.Int64) ⊎ (s ≡ ty.Uint64) → true ≡ true → TakesTypes n (s ∷ [])
took_sum n s e either passed = subst (λ k. TakesTypes k (s ∷ [])) (sym e) (by_sum s either)
