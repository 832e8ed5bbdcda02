-- The calls of the tests may go over their columns.
use Rattle.std.proofs.Common.{◌≡◌, ℕ, zero, suc, ◌+◌, ◌<◌, Bool, true, false, ◌&&◌, List, [], ◌∷◌, ◌++◌, length, get_or, map, take, refl, ap, sym, ◌∙◌, subst, arith, None}
use Rattle.std.specs.List.{All}
use Rattle.std.proofs.lemmas.List.{length-map}
use Rattle.std.proofs.lemmas.List.Elements.{All-push}
use Rattle.sql_types.specs.declared.kinds.SortItem.{SortItem}
use Rattle.sql_types.specs.declared.rows.Rows.{Rows}
use Rattle.sql_types.specs.declared.sql_type.Named.{Named}
use Rattle.sql_types.specs.declared.sql_type.SqlType.{SqlType}
use Rattle.sql_types.specs.declared.sql_type.SqlType.TheVariants as ty
use Rattle.sql_types.specs.declared.value.Value.{Value}
use Rattle.sql_types.specs.declared.value.Value.TheVariants.{Null}
use Rattle.sql_types.specs.Comparable.{orderable, orderable_layer}
use Rattle.sql_aggregates.specs.declared.call.AggName.{AggName}
use Rattle.sql_aggregates.specs.declared.call.AggName.TheVariants as name
use Rattle.sql_aggregates.specs.declared.call.AggCall.{AggCall}
use Rattle.sql_aggregates.specs.Calls.{is_array, TakesTypes, takes_rows, takes_any, takes_signed, takes_least, takes_greatest, takes_elements, takes_separator, lawful}
use Rattle.key_classes.specs.Classes.{key_of}
use Rattle.eval_groups.specs.declared.groups.Group.{Group}
use Rattle.eval_groups.specs.Aggregated.{column_types, types_at, lists_of, OneSeparator, Aggregable, AllAggregable, AllWithin}
use Rattle.eval_groups.proofs.AggregableLaws.{aggregable, aggregable_each}
use Rattle.eval_groups.proofs.AggregateLaws.{of_all}

pub all_none : {X : Type 0} (P : X → Type 0) → All P []
all_none P k d w = absurd (omega (arith, w))

all_with : {X : Type 0} (P : X → Type 0) (x : X) (xs : List X) → P x → All P xs → All P (x ∷ xs)
all_with P x xs here all zero d w = here
all_with P x xs here all (suc k) d w = all k d (omega (arith, w))

all_mapped : {X Y : Type 0} (P : Y → Type 0) (f : X → Y) (xs : List X) → All (λ (x : X). P (f x)) xs → All P (map f xs)
all_mapped P f [] all k d inside = absurd (omega (arith, inside))
all_mapped P f (x ∷ xs) all zero d inside = all 0 x (omega arith)
all_mapped P f (x ∷ xs) all (suc k) d inside = all_mapped P f xs (λ j e w. all (suc j) e (omega (arith, w))) k d (omega (arith, inside))

take_next : {X : Type 0} (xs : List X) (i : ℕ) (d : X) → i < length xs → take (i + 1) xs ≡ take i xs ++ get_or xs i d ∷ []
take_next {X} xs i d within = let next : i + 1 ≡ suc i = omega arith in ap (λ (n : ℕ). take n xs) next ∙ by xs i within
  where
    by : (ys : List X) (j : ℕ) → j < length ys → take (suc j) ys ≡ take j ys ++ get_or ys j d ∷ []
    by [] j inside = absurd (omega arith)
    by (y ∷ ys) zero inside = refl
    by (y ∷ ys) (suc j) inside = ap (λ z. y ∷ z) (by ys j (omega arith))

pub one_more : {X : Type 0} (P : X → Type 0) (xs after : List X) (x : X) → All P xs → P x → after ≡ xs ++ x ∷ [] → All P after
one_more P xs after x all here is = subst (All P) (sym is) (All-push P xs x all here)

-- one more of the front
pub front_more : (P : ℕ → Type 0) (xs : List ℕ) (i d : ℕ) → i < length xs → All P (take i xs) → P (get_or xs i d) → All P (take (i + 1) xs)
front_more P xs i d within all here = one_more P (take i xs) (take (i + 1) xs) (get_or xs i d) all here (take_next xs i d within)

pub front_more_at : {X : Type 0} (P : X → Type 0) (xs : List X) (i : ℕ) (x : X) → i < length xs → x ≡ get_or xs i x → All P (take i xs) → P x → All P (take (i + 1) xs)
front_more_at P xs i x within is all here = one_more P (take i xs) (take (i + 1) xs) x all here (take_next xs i x within ∙ ap (λ z. take i xs ++ z ∷ []) (sym is))

abbrev pub plain : AggName → AggCall
plain n = record { name = n; distinct = false; ignore_nulls = false; order = []; limit = None }

abbrev item : SortItem
item = record { place = 1; descending = false; nulls_first = true }

abbrev pub ordered : AggCall
ordered = record { name = name.ArrayAgg; distinct = false; ignore_nulls = false; order = item ∷ []; limit = None }

number_orderable : orderable ty.Int64 ≡ true
number_orderable = ap orderable_layer ty.outs-Int64

module _ (table : Rows) (groups : List Group) (members : AllWithin table groups) (two : column_types table ≡ ty.Int64 ∷ ty.Int64 ∷ []) where
  wide : length table.columns ≡ 2
  wide = sym (length-map table.columns (λ (c : Named SqlType). c.ty)) ∙ ap length two

  abbrev Inside : ℕ → Type 0
  Inside place = place < length table.columns

  second_inside : All Inside (1 ∷ [])
  second_inside = all_with Inside 1 [] (omega (arith, wide)) (all_none Inside)

  both_inside : All Inside (1 ∷ 0 ∷ [])
  both_inside = all_with Inside 1 (0 ∷ []) (omega (arith, wide)) (all_with Inside 0 [] (omega (arith, wide)) (all_none Inside))

  typed : (places : List ℕ) → types_at (column_types table) places ≡ types_at (ty.Int64 ∷ ty.Int64 ∷ []) places
  typed places = ap (λ (z : List SqlType). types_at z places) two

  of_rows : Aggregable table groups (plain name.Count) []
  of_rows = aggregable table groups (plain name.Count) [] [] [] members refl (all_none Inside) refl refl refl tt takes_rows refl (λ one. absurd (omega (arith, one)))

  of_values : (n : AggName) → TakesTypes n (ty.Int64 ∷ []) → lawful (plain n) ≡ true → Aggregable table groups (plain n) (1 ∷ [])
  of_values n taken allowed = aggregable table groups (plain n) (1 ∷ []) (ty.Int64 ∷ []) [] members allowed second_inside (typed (1 ∷ [])) refl refl tt taken refl (λ one. absurd (omega (arith, one)))

  in_order : Aggregable table groups ordered (1 ∷ 0 ∷ [])
  in_order = aggregable table groups ordered (1 ∷ 0 ∷ []) (ty.Int64 ∷ []) (ty.Int64 ∷ []) members refl both_inside (typed (1 ∷ 0 ∷ [])) refl (ap (λ (b : Bool). b && true) number_orderable) (refl, tt) (takes_elements (ap is_array ty.outs-Int64)) refl (λ one. absurd (omega (arith, one)))

  pub all_calls : AllAggregable table groups (plain name.Count ∷ plain name.Count ∷ plain name.Sum ∷ plain name.Min ∷ plain name.Max ∷ ordered ∷ []) ([] ∷ (1 ∷ []) ∷ (1 ∷ []) ∷ (1 ∷ []) ∷ (1 ∷ []) ∷ (1 ∷ 0 ∷ []) ∷ [])
  all_calls = (
    of_rows,
    (
      of_values name.Count takes_any refl,
      (
        of_values name.Sum takes_signed refl,
        (
          of_values name.Min (takes_least number_orderable) refl,
          (
            of_values name.Max (takes_greatest number_orderable) refl,
            (in_order, tt),
          ),
        ),
      ),
    ),
  )

  pub calls_allowed : (rows counts totals leasts greatests lists : AggCall) (arguments seen : List (List ℕ)) → rows ≡ plain name.Count → counts ≡ plain name.Count → totals ≡ plain name.Sum → leasts ≡ plain name.Min → greatests ≡ plain name.Max → lists ≡ ordered →
      seen ≡ arguments → arguments ≡ [] ∷ (1 ∷ []) ∷ (1 ∷ []) ∷ (1 ∷ []) ∷ (1 ∷ []) ∷ (1 ∷ 0 ∷ []) ∷ [] → AllAggregable table groups (rows ∷ counts ∷ totals ∷ leasts ∷ greatests ∷ lists ∷ []) seen
  calls_allowed rows counts totals leasts greatests lists arguments seen a b c d e f same are =
      subst (λ (z : List (List ℕ)). AllAggregable table groups (rows ∷ counts ∷ totals ∷ leasts ∷ greatests ∷ lists ∷ []) z) (sym (same ∙ are))
      (subst (λ (z : List AggCall). AllAggregable table groups z ([] ∷ (1 ∷ []) ∷ (1 ∷ []) ∷ (1 ∷ []) ∷ (1 ∷ []) ∷ (1 ∷ 0 ∷ []) ∷ []))
      (sym (ap (λ (z : AggCall). z ∷ counts ∷ totals ∷ leasts ∷ greatests ∷ lists ∷ []) a ∙ ap (λ (z : AggCall). plain name.Count ∷ z ∷ totals ∷ leasts ∷ greatests ∷ lists ∷ []) b
      ∙ ap (λ (z : AggCall). plain name.Count ∷ plain name.Count ∷ z ∷ leasts ∷ greatests ∷ lists ∷ []) c ∙ ap (λ (z : AggCall). plain name.Count ∷ plain name.Count ∷ plain name.Sum ∷ z ∷ greatests ∷ lists ∷ []) d
      ∙ ap (λ (z : AggCall). plain name.Count ∷ plain name.Count ∷ plain name.Sum ∷ plain name.Min ∷ z ∷ lists ∷ []) e ∙ ap (λ (z : AggCall). plain name.Count ∷ plain name.Count ∷ plain name.Sum ∷ plain name.Min ∷ plain name.Max ∷ z ∷ []) f))
      all_calls)

-- ---- STRING_AGG of the second column with the separators of the third, in the order of the texts

abbrev by_text : SortItem
by_text = record { place = 2; descending = false; nulls_first = true }

abbrev pub joined : AggCall
joined = record { name = name.StringAgg; distinct = false; ignore_nulls = false; order = by_text ∷ []; limit = None }

text_orderable : orderable ty.Text ≡ true
text_orderable = ap orderable_layer ty.outs-Text

abbrev list_of : Rows → ℕ → List Value
list_of table number = key_of (1 ∷ 2 ∷ 1 ∷ []) (get_or table.rows number [])

-- where the rows of a group have this separator, it has one
pub one_separator : (table : Rows) (group : Group) (separator : Value) → All (λ (number : ℕ). get_or (get_or table.rows number []) 2 Null ≡ separator) group.rows → OneSeparator (lists_of table.rows (1 ∷ 2 ∷ 1 ∷ []) group)
one_separator table group separator all one other c d =
    let each : All (λ (list : List Value). get_or list 1 Null ≡ separator) (lists_of table.rows (1 ∷ 2 ∷ 1 ∷ []) group) = all_mapped (λ (list : List Value). get_or list 1 Null ≡ separator) (list_of table) group.rows all in
    of_all (λ (list : List Value). get_or list 1 Null ≡ separator) (lists_of table.rows (1 ∷ 2 ∷ 1 ∷ []) group) one each c
    ∙ sym (of_all (λ (list : List Value). get_or list 1 Null ≡ separator) (lists_of table.rows (1 ∷ 2 ∷ 1 ∷ []) group) other each d)

pub no_separator : (table : Rows) (group : Group) → group.rows ≡ [] → OneSeparator (lists_of table.rows (1 ∷ 2 ∷ 1 ∷ []) group)
no_separator table group none = one_separator table group Null (subst (All (λ (number : ℕ). get_or (get_or table.rows number []) 2 Null ≡ Null)) (sym none) (all_none (λ (number : ℕ). get_or (get_or table.rows number []) 2 Null ≡ Null)))

module _ (table : Rows) (groups : List Group) (members : AllWithin table groups) (three : column_types table ≡ ty.Int64 ∷ ty.Text ∷ ty.Text ∷ []) where
  three_wide : length table.columns ≡ 3
  three_wide = sym (length-map table.columns (λ (c : Named SqlType). c.ty)) ∙ ap length three

  abbrev In : ℕ → Type 0
  In place = place < length table.columns

  texts_inside : All In (1 ∷ 2 ∷ 1 ∷ [])
  texts_inside = all_with In 1 (2 ∷ 1 ∷ []) (omega (arith, three_wide)) (all_with In 2 (1 ∷ []) (omega (arith, three_wide)) (all_with In 1 [] (omega (arith, three_wide)) (all_none In)))

  pub joins : All (λ (group : Group). OneSeparator (lists_of table.rows (1 ∷ 2 ∷ 1 ∷ []) group)) groups → Aggregable table groups joined (1 ∷ 2 ∷ 1 ∷ [])
  joins separators =
      aggregable_each table groups joined (1 ∷ 2 ∷ 1 ∷ []) (ty.Text ∷ ty.Text ∷ []) (ty.Text ∷ []) members refl texts_inside (ap (λ (z : List SqlType). types_at z (1 ∷ 2 ∷ 1 ∷ [])) three) refl
      (ap (λ (b : Bool). b && true) text_orderable) (refl, tt) takes_separator refl (λ _. separators)

  pub joins_allowed : (call : AggCall) (arguments seen : List (List ℕ)) → All (λ (group : Group). OneSeparator (lists_of table.rows (1 ∷ 2 ∷ 1 ∷ []) group)) groups → call ≡ joined → seen ≡ arguments → arguments ≡ (1 ∷ 2 ∷ 1 ∷ []) ∷ [] → AllAggregable table groups (call ∷ []) seen
  joins_allowed call arguments seen separators is same are =
      subst (λ (z : List (List ℕ)). AllAggregable table groups (call ∷ []) z) (sym (same ∙ are))
      (subst (λ (z : AggCall). AllAggregable table groups (z ∷ []) ((1 ∷ 2 ∷ 1 ∷ []) ∷ [])) (sym is) (joins separators, tt))
