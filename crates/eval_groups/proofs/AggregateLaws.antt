-- What calls answer over groups.
use Rattle.std.proofs.Common.{◌≡◌, ℕ, zero, suc, ◌+◌, ◌-◌, ◌<◌, ◌≤◌, Bool, true, ◌&&◌, List, [], ◌∷◌, ◌++◌, length, get_or, map, take, refl, ap, sym, ◌∙◌, subst, arith, inl, inr, None, Some, Ok, Err}
use Rattle.std.specs.Prelude.{Result, slice_get}
use Rattle.std.specs.List.{All, Contains}
use Rattle.std.proofs.Math.Seq.{take-append_seam}
use Rattle.std.proofs.lemmas.List.{map-append, length-map, length-append, take_all, take-map, get_or_default, get_or-map}
use Rattle.std.proofs.lemmas.Option.{get_or_from_slice_get}
use Rattle.sql_types.specs.declared.fault.FaultKind.{FaultKind}
use Rattle.sql_types.specs.declared.fault.CallFault.{CallFault}
use Rattle.sql_types.specs.declared.fault.CallFault.TheVariants.{Fault, OutOfMemory}
use Rattle.sql_types.specs.declared.rows.Rows.{Rows}
use Rattle.sql_types.specs.declared.sql_type.Named.{Named}
use Rattle.sql_types.specs.declared.sql_type.SqlType.{SqlType}
use Rattle.sql_types.specs.declared.sql_type.SqlType.TheVariants as ty
use Rattle.sql_types.specs.declared.value.Value.{Value}
use Rattle.sql_types.specs.Fits.{fits, fits_row}
use Rattle.sql_types.specs.Outcome.{Meaning, EachGives, SomeFaults, Gather, all_give, one_faults, Answers}
use Rattle.sql_aggregates.specs.declared.call.AggCall.{AggCall}
use Rattle.sql_aggregates.specs.Aggregates.{AggMeans}
use Rattle.sql_aggregates.specs.AnswerTypes.{answer_type}
use Rattle.sql_aggregates.specs.Calls.{Addable, AllAddable}
use Rattle.sql_aggregates.proofs.AnswerLaws.{answer_fits}
use Rattle.eval_groups.specs.declared.groups.Group.{Group}
use Rattle.key_classes.specs.Classes.{key_of}
use Rattle.eval_groups.specs.Aggregated.{column_types, types_at, lists_of, OneSeparator, Aggregable, AllAggregable, AllWithin, calls_mean, Aggregated, answer_columns, Aggregates}

both : {a b : Bool} → a ≡ true → b ≡ true → (a && b) ≡ true
both {a} {b} e f = ap (λ x. x && b) e ∙ f

one_more : (n : ℕ) → n + 1 ≡ suc n
one_more n = omega arith

-- ---- several things, one after another

module _ {X A : Type 0} (f : X → Meaning A) where
  each_next : (xs : List X) (i : ℕ) (x : X) (values : List A) (value : A) → i < length xs → x ≡ get_or xs i x → EachGives (map f (take i xs)) values → f x (Ok value) → EachGives (map f (take (suc i) xs)) (values ++ value ∷ [])
  each_next [] i x values value within is each given = absurd (omega arith)
  each_next (y ∷ ys) zero x [] value within is each given = (subst (λ (z : X). f z (Ok value)) is given, tt)
  each_next (y ∷ ys) zero x (v ∷ vs) value within is each given = absurd each
  each_next (y ∷ ys) (suc i) x [] value within is each given = absurd each
  each_next (y ∷ ys) (suc i) x (v ∷ vs) value within is each given = (each.0, each_next ys i x vs value (omega arith) is each.1 given)

  some_faults : (xs : List X) (i : ℕ) (x : X) (fault : FaultKind) → i < length xs → x ≡ get_or xs i x → f x (Err fault) → SomeFaults fault (map f xs)
  some_faults [] i x fault within is given = absurd (omega arith)
  some_faults (y ∷ ys) zero x fault within is given = inl (subst (λ (z : X). f z (Err fault)) is given)
  some_faults (y ∷ ys) (suc i) x fault within is given = inr (some_faults ys i x fault (omega arith) is given)

-- what holds of each holds of one that is there
pub of_all : {X : Type 0} (P : X → Type 0) (xs : List X) (x : X) → All P xs → Contains xs x → P x
of_all P xs x all (k, within, at) = subst P at (all k x within)

-- an element of the front is there
in_front : {X Y : Type 0} (f : X → Y) (xs : List X) (i : ℕ) (y : Y) → Contains (map f (take i xs)) y → Contains (map f xs) y
in_front f xs zero y (k, within, at) = absurd (omega arith)
in_front f [] (suc i) y (k, within, at) = absurd (omega arith)
in_front f (x ∷ xs) (suc i) y (zero, within, at) = (zero, omega arith, at)
in_front f (x ∷ xs) (suc i) y (suc k, within, at) =
    let later = in_front f xs i y (k, omega arith, at) in
    (suc later.0, omega (arith, later.1), later.2)

next : {X : Type 0} (xs : List X) (i : ℕ) (x : X) → i < length xs → x ≡ get_or xs i x → take (suc i) xs ≡ take i xs ++ x ∷ []
next [] i x within is = absurd (omega arith)
next (y ∷ ys) zero x within is = ap (λ z. z ∷ []) (sym is)
next (y ∷ ys) (suc i) x within is = ap (λ z. y ∷ z) (next ys i x (omega arith) is)

-- ---- the calls with their columns

module _ (table : Rows) (groups : List Group) where
  pub as_many : (calls : List AggCall) (arguments : List (List ℕ)) → AllAggregable table groups calls arguments → length calls ≡ length arguments
  as_many [] [] all = refl
  as_many [] (places ∷ arguments) all = absurd all
  as_many (call ∷ calls) [] all = absurd all
  as_many (call ∷ calls) (places ∷ arguments) all = ap suc (as_many calls arguments all.1)

  at_both : (calls : List AggCall) (arguments : List (List ℕ)) (i : ℕ) (call : AggCall) (places : List ℕ) → i < length calls → call ≡ get_or calls i call → places ≡ get_or arguments i places → AllAggregable table groups calls arguments → Aggregable table groups call places
  at_both [] arguments i call places within is at all = absurd (omega arith)
  at_both (c ∷ calls) [] i call places within is at all = absurd all
  at_both (c ∷ calls) (p ∷ arguments) zero call places within is at all =
      subst (λ (z : AggCall). Aggregable table groups z places) (sym is) (subst (λ (z : List ℕ). Aggregable table groups c z) (sym at) all.0)
  at_both (c ∷ calls) (p ∷ arguments) (suc i) call places within is at all = at_both calls arguments i call places (omega arith) is at all.1

  -- the columns are given as a slice sees them
  pub aggregable_at : (calls : List AggCall) (arguments : List (List ℕ)) (i : ℕ) (call : AggCall) (held places : List ℕ) → i < length calls → call ≡ get_or calls i call → held ≡ get_or arguments i held → places ≡ held → AllAggregable table groups calls arguments → Aggregable table groups call places
  aggregable_at calls arguments i call held places within is at same all = subst (λ (z : List ℕ). Aggregable table groups call z) (sym same) (at_both calls arguments i call held within is at all)

-- over some of the groups
over_some : (table : Rows) (groups some : List Group) (call : AggCall) (places : List ℕ) → ((P : Group → Type 0) → All P groups → All P some) → Aggregable table groups call places → Aggregable table some call places
over_some table groups some call places part aggregable = record {
  modifiers = aggregable.modifiers;
  within = aggregable.within;
  argument_types = aggregable.argument_types;
  sort_types = aggregable.sort_types;
  types = aggregable.types;
  sorts = aggregable.sorts;
  taken = aggregable.taken;
  each = part (λ group. All (Addable call aggregable.argument_types aggregable.sort_types) (lists_of table.rows places group)) aggregable.each;
  separators = λ two. part (λ group. OneSeparator (lists_of table.rows places group)) (aggregable.separators two);
}

all_over_some : (table : Rows) (groups some : List Group) (calls : List AggCall) (arguments : List (List ℕ)) → ((P : Group → Type 0) → All P groups → All P some) → AllAggregable table groups calls arguments → AllAggregable table some calls arguments
all_over_some table groups some [] [] part all = tt
all_over_some table groups some [] (places ∷ arguments) part all = absurd all
all_over_some table groups some (call ∷ calls) [] part all = absurd all
all_over_some table groups some (call ∷ calls) (places ∷ arguments) part all = (over_some table groups some call places part all.0, all_over_some table groups some calls arguments part all.1)

one_of : (groups : List Group) (i : ℕ) (group : Group) → i < length groups → group ≡ get_or groups i group → (P : Group → Type 0) → All P groups → All P (group ∷ [])
one_of groups i group inside is P all zero d within = subst P (sym is) (all i group inside)
one_of groups i group inside is P all (suc k) d within = absurd (omega (arith, within))

none_of : (groups : List Group) (P : Group → Type 0) → All P groups → All P []
none_of groups P all k d within = absurd (omega (arith, within))

pub over_one : (table : Rows) (groups : List Group) (calls : List AggCall) (arguments : List (List ℕ)) (i : ℕ) (group : Group) → i < length groups → group ≡ get_or groups i group → AllAggregable table groups calls arguments → AllAggregable table (group ∷ []) calls arguments
over_one table groups calls arguments i group inside is = all_over_some table groups (group ∷ []) calls arguments (one_of groups i group inside is)

pub over_none : (table : Rows) (groups : List Group) (calls : List AggCall) (arguments : List (List ℕ)) → AllAggregable table groups calls arguments → AllAggregable table [] calls arguments
over_none table groups calls arguments = all_over_some table groups [] calls arguments (none_of groups)

-- ---- the columns of the answer

abbrev type_of : List SqlType → AggCall → List ℕ → SqlType
type_of types call places = answer_type call.name (take (length places - length call.order) (types_at types places))

abbrev column_of : List SqlType → AggCall → List ℕ → Named SqlType
column_of types call places = record { name = None; ty = type_of types call places }

columns_next : (types : List SqlType) (calls : List AggCall) (arguments : List (List ℕ)) (i : ℕ) (call : AggCall) (places : List ℕ) → i < length calls → i < length arguments → call ≡ get_or calls i call → places ≡ get_or arguments i places →
    answer_columns types (take i calls) (take i arguments) ++ column_of types call places ∷ [] ≡ answer_columns types (take (suc i) calls) (take (suc i) arguments)
columns_next types [] arguments i call places within inside is at = absurd (omega arith)
columns_next types (c ∷ calls) [] i call places within inside is at = absurd (omega arith)
columns_next types (c ∷ calls) (p ∷ arguments) zero call places within inside is at =
    ap (λ (z : AggCall). column_of types z places ∷ []) is ∙ ap (λ (z : List ℕ). column_of types c z ∷ []) at
columns_next types (c ∷ calls) (p ∷ arguments) (suc i) call places within inside is at =
    ap (λ (z : List (Named SqlType)). column_of types c p ∷ z) (columns_next types calls arguments i call places (omega arith) (omega arith) is at)

pub columns_more : (types : List SqlType) (calls : List AggCall) (arguments : List (List ℕ)) (i : ℕ) (call : AggCall) (held places : List ℕ) (type : SqlType) (columns after : List (Named SqlType)) → i < length calls → length calls ≡ length arguments → call ≡ get_or calls i call → held ≡ get_or arguments i held → places ≡ held →
    type ≡ type_of types call places → columns ≡ answer_columns types (take i calls) (take i arguments) → after ≡ columns ++ record { name = None; ty = type } ∷ [] → after ≡ answer_columns types (take (i + 1) calls) (take (i + 1) arguments)
columns_more types calls arguments i call held places type columns after within many is at same typed so_far pushed =
    pushed ∙ ap (λ (z : List (Named SqlType)). z ++ record { name = None; ty = type } ∷ []) so_far
    ∙ ap (λ (z : SqlType). answer_columns types (take i calls) (take i arguments) ++ record { name = None; ty = z } ∷ []) (typed ∙ ap (type_of types call) same)
    ∙ columns_next types calls arguments i call held within (omega (arith, many)) is at
    ∙ ap (λ (n : ℕ). answer_columns types (take n calls) (take n arguments)) (sym (one_more i))

pub columns_all : (types : List SqlType) (calls : List AggCall) (arguments : List (List ℕ)) (i : ℕ) (columns : List (Named SqlType)) → length calls ≤ i → length calls ≡ length arguments → columns ≡ answer_columns types (take i calls) (take i arguments) → columns ≡ answer_columns types calls arguments
columns_all types calls arguments i columns past many so_far =
    so_far ∙ ap (λ (z : List AggCall). answer_columns types z (take i arguments)) (take_all i calls past) ∙ ap (answer_columns types calls) (take_all i arguments (omega (arith, many)))

-- the types of the columns, as those that are taken of a table
pub types_more : (types : List SqlType) (places : List ℕ) (i place : ℕ) (type : SqlType) (so_far after : List SqlType) → i < length places → place ≡ get_or places i place → type ≡ get_or types place ty.Int64 → so_far ≡ types_at types (take i places) → after ≡ so_far ++ type ∷ [] → after ≡ types_at types (take (i + 1) places)
types_more types places i place type so_far after within is typed before pushed =
    pushed ∙ ap (λ (z : List SqlType). z ++ type ∷ []) before ∙ ap (λ (z : SqlType). types_at types (take i places) ++ z ∷ []) typed
    ∙ sym (map-append (λ (p : ℕ). get_or types p ty.Int64) (take i places) (place ∷ [])) ∙ ap (types_at types) (sym (next places i place within is) ∙ ap (λ (n : ℕ). take n places) (sym (one_more i)))

pub type_of_column : (columns seen : List (Named SqlType)) (place : ℕ) (absent : Named SqlType) → place < length columns → seen ≡ columns → (get_or seen place absent).ty ≡ get_or (map (λ c. c.ty) columns) place ty.Int64
type_of_column columns seen place absent within same = ap (λ (z : List (Named SqlType)). (get_or z place absent).ty) same ∙ sym (get_or-map (λ (c : Named SqlType). c.ty) columns place absent ty.Int64 within)

-- those of the first columns
pub front_types : (types : List SqlType) (places front : List ℕ) (count sorts : ℕ) → front ≡ take (length places - count) places → count ≡ sorts → types_at types front ≡ take (length places - sorts) (types_at types places)
front_types types places front count sorts are is =
    ap (types_at types) (are ∙ ap (λ (n : ℕ). take (length places - n) places) is) ∙ sym (take-map (λ (p : ℕ). get_or types p ty.Int64) (length places - sorts) places)

-- ---- what a call takes from the rows of a group

-- a number as a loop reads it
pub read_default : (numbers seen : List ℕ) (i : ℕ) → seen ≡ numbers → i < length seen → get_or seen i 0 ≡ get_or numbers i (get_or seen i 0)
read_default numbers seen i same within = get_or_default seen i 0 (get_or seen i 0) within ∙ ap (λ (z : List ℕ). get_or z i (get_or seen i 0)) same

module _ (table : Rows) where
  abbrev list_at : List ℕ → ℕ → List Value
  list_at places number = key_of places (get_or table.rows number [])

  pub list_more : (places numbers : List ℕ) (i number : ℕ) (row seen list given : List Value) (added : List (List Value)) → i < length numbers → number ≡ get_or numbers i number → slice_get table.rows number ≡ Some row → seen ≡ row → list ≡ key_of places seen → given ≡ list → added ≡ map (list_at places) (take i numbers) →
      added ++ given ∷ [] ≡ map (list_at places) (take (i + 1) numbers)
  list_more places numbers i number row seen list given added within is at same listed passed so_far =
      ap (λ (z : List (List Value)). z ++ given ∷ []) so_far
      ∙ ap (λ (z : List Value). map (list_at places) (take i numbers) ++ z ∷ []) (passed ∙ listed ∙ ap (key_of places) (same ∙ sym (get_or_from_slice_get table.rows number row [] at)))
      ∙ sym (map-append (list_at places) (take i numbers) (number ∷ [])) ∙ ap (map (list_at places)) (sym (next numbers i number within is) ∙ ap (λ (n : ℕ). take n numbers) (sym (one_more i)))

  module _ (group : Group) where
    pub lists_addable : (call : AggCall) (places : List ℕ) (aggregable : Aggregable table (group ∷ []) call places) (list : List Value) → Contains (lists_of table.rows places group) list → Addable call aggregable.argument_types aggregable.sort_types list
    lists_addable call places aggregable list = of_all (Addable call aggregable.argument_types aggregable.sort_types) (lists_of table.rows places group) list (aggregable.each 0 group (omega arith))

    front_addable : (call : AggCall) (places : List ℕ) (i : ℕ) → Aggregable table (group ∷ []) call places → AllAddable call (map (list_at places) (take i group.rows))
    front_addable call places i aggregable = record {
      argument_types = aggregable.argument_types;
      sort_types = aggregable.sort_types;
      each = λ list c. lists_addable call places aggregable list (in_front (list_at places) group.rows i list c);
      separators = λ two one other c d. aggregable.separators two 0 group (omega arith) one other (in_front (list_at places) group.rows i one c) (in_front (list_at places) group.rows i other d);
    }

    -- the rows so far may be added
    pub still_addable : (call held : AggCall) (places : List ℕ) (i : ℕ) (lists : List (List Value)) → Aggregable table (group ∷ []) call places → held ≡ call → lists ≡ map (list_at places) (take i group.rows) → AllAddable held lists
    still_addable call held places i lists aggregable same are = subst (λ (z : AggCall). AllAddable z lists) (sym same) (subst (AllAddable call) (sym are) (front_addable call places i aggregable))

pub call_answered : (call held : AggCall) (f : ℕ → List Value) (numbers : List ℕ) (i : ℕ) (lists : List (List Value)) (result : Result Value CallFault) → length numbers ≤ i → held ≡ call → lists ≡ map f (take i numbers) → Answers (AggMeans held lists) result → Answers (AggMeans call (map f numbers)) result
call_answered call held f numbers i lists result past same are given =
    subst (λ (z : AggCall). Answers (AggMeans z (map f numbers)) result) same (subst (λ (z : List (List Value)). Answers (AggMeans held z) result) (are ∙ ap (map f) (take_all i numbers past)) given)

-- ---- what calls answer fits the columns

module _ (table : Rows) (group : Group) where
  argument_types_are : (call : AggCall) (places : List ℕ) (aggregable : Aggregable table (group ∷ []) call places) → take (length places - length call.order) (types_at (column_types table) places) ≡ aggregable.argument_types
  argument_types_are call places aggregable =
      let types = types_at (column_types table) places in
      let long : length types ≡ length places = length-map places (λ (p : ℕ). get_or (column_types table) p ty.Int64) in
      let parts : length types ≡ length aggregable.argument_types + length aggregable.sort_types = ap length aggregable.types ∙ length-append aggregable.argument_types aggregable.sort_types in
      let sorts : length aggregable.sort_types ≡ length call.order = aggregable.sorts in
      let many : length places - length call.order ≡ length aggregable.argument_types = omega (arith, long, parts, sorts) in
      ap (λ (n : ℕ). take n types) many ∙ ap (take (length aggregable.argument_types)) aggregable.types ∙ take-append_seam aggregable.argument_types aggregable.sort_types

  call_fits : (call : AggCall) (places : List ℕ) (x : Value) → Aggregable table (group ∷ []) call places → AggMeans call (lists_of table.rows places group) (Ok x) → fits (type_of (column_types table) call places) x ≡ true
  call_fits call places x aggregable given =
      ap (λ (z : List SqlType). fits (answer_type call.name z) x) (argument_types_are call places aggregable)
      ∙ answer_fits call aggregable.argument_types aggregable.sort_types (lists_of table.rows places group) x aggregable.taken (lists_addable table group call places aggregable) given

  row_fits : (calls : List AggCall) (arguments : List (List ℕ)) (row : List Value) → AllAggregable table (group ∷ []) calls arguments → EachGives (calls_mean table.rows calls arguments group) row → fits_row (answer_columns (column_types table) calls arguments) row ≡ true
  row_fits [] [] [] all each = refl
  row_fits [] [] (x ∷ xs) all each = absurd each
  row_fits [] (places ∷ arguments) row all each = absurd all
  row_fits (call ∷ calls) [] row all each = absurd all
  row_fits (call ∷ calls) (places ∷ arguments) [] all each = absurd each
  row_fits (call ∷ calls) (places ∷ arguments) (x ∷ xs) all each = both (call_fits call places x all.0 each.0) (row_fits calls arguments xs all.1 each.1)

  gathered_row_fits : (calls : List AggCall) (arguments : List (List ℕ)) (row : List Value) → AllAggregable table (group ∷ []) calls arguments → Gather (calls_mean table.rows calls arguments group) (Ok row) → fits_row (answer_columns (column_types table) calls arguments) row ≡ true
  gathered_row_fits calls arguments row all (all_give each) = row_fits calls arguments row all each

pub answer_row_fits : (table : Rows) (groups : List Group) (calls : List AggCall) (arguments : List (List ℕ)) (columns : List (Named SqlType)) (i : ℕ) (group : Group) (row : List Value) → AllAggregable table groups calls arguments → columns ≡ answer_columns (column_types table) calls arguments → i < length groups → group ≡ get_or groups i group →
    Gather (calls_mean table.rows calls arguments group) (Ok row) → fits_row columns row ≡ true
answer_row_fits table groups calls arguments columns i group row aggregable are inside is given =
    ap (λ (z : List (Named SqlType)). fits_row z row) are
    ∙ gathered_row_fits table group calls arguments row (over_one table groups calls arguments i group inside is aggregable) given

pub members_at : (table : Rows) (groups : List Group) (i : ℕ) (group : Group) → AllWithin table groups → i < length groups → group ≡ get_or groups i group → All (λ (number : ℕ). number < length table.rows) group.rows
members_at table groups i group within inside is = subst (λ (z : Group). All (λ (number : ℕ). number < length table.rows) z.rows) (sym is) (within i group inside)

-- ---- a group's row

module _ (rows : List (List Value)) (group : Group) where
  abbrev Mean : AggCall → List ℕ → Meaning Value
  Mean call places = AggMeans call (lists_of rows places group)

  calls_next : (calls : List AggCall) (arguments : List (List ℕ)) (i : ℕ) (call : AggCall) (places : List ℕ) (values : List Value) (value : Value) → i < length calls → i < length arguments → call ≡ get_or calls i call → places ≡ get_or arguments i places →
      EachGives (calls_mean rows (take i calls) (take i arguments) group) values → Mean call places (Ok value) → EachGives (calls_mean rows (take (suc i) calls) (take (suc i) arguments) group) (values ++ value ∷ [])
  calls_next [] arguments i call places values value within inside is at each given = absurd (omega arith)
  calls_next (c ∷ calls) [] i call places values value within inside is at each given = absurd (omega arith)
  calls_next (c ∷ calls) (p ∷ arguments) zero call places [] value within inside is at each given =
      (subst (λ (z : List ℕ). Mean c z (Ok value)) at (subst (λ (z : AggCall). Mean z places (Ok value)) is given), tt)
  calls_next (c ∷ calls) (p ∷ arguments) zero call places (v ∷ vs) value within inside is at each given = absurd each
  calls_next (c ∷ calls) (p ∷ arguments) (suc i) call places [] value within inside is at each given = absurd each
  calls_next (c ∷ calls) (p ∷ arguments) (suc i) call places (v ∷ vs) value within inside is at each given = (each.0, calls_next calls arguments i call places vs value (omega arith) (omega arith) is at each.1 given)

  call_fault : (calls : List AggCall) (arguments : List (List ℕ)) (i : ℕ) (call : AggCall) (places : List ℕ) (fault : FaultKind) → i < length calls → i < length arguments → call ≡ get_or calls i call → places ≡ get_or arguments i places → Mean call places (Err fault) → SomeFaults fault (calls_mean rows calls arguments group)
  call_fault [] arguments i call places fault within inside is at given = absurd (omega arith)
  call_fault (c ∷ calls) [] i call places fault within inside is at given = absurd (omega arith)
  call_fault (c ∷ calls) (p ∷ arguments) zero call places fault within inside is at given = inl (subst (λ (z : List ℕ). Mean c z (Err fault)) at (subst (λ (z : AggCall). Mean z places (Err fault)) is given))
  call_fault (c ∷ calls) (p ∷ arguments) (suc i) call places fault within inside is at given = inr (call_fault calls arguments i call places fault (omega arith) (omega arith) is at given)

  pub calls_more : (calls : List AggCall) (arguments : List (List ℕ)) (i : ℕ) (call : AggCall) (held places : List ℕ) (values after : List Value) (value : Value) → i < length calls → length calls ≡ length arguments → call ≡ get_or calls i call → held ≡ get_or arguments i held → places ≡ held →
      EachGives (calls_mean rows (take i calls) (take i arguments) group) values → Mean call places (Ok value) → after ≡ values ++ value ∷ [] → EachGives (calls_mean rows (take (i + 1) calls) (take (i + 1) arguments) group) after
  calls_more calls arguments i call held places values after value within many is at same each given pushed =
      subst (λ (n : ℕ). EachGives (calls_mean rows (take n calls) (take n arguments) group) after) (sym (one_more i))
      (subst (EachGives (calls_mean rows (take (suc i) calls) (take (suc i) arguments) group)) (sym pushed)
      (calls_next calls arguments i call held values value within (omega (arith, many)) is at each (subst (λ (z : List ℕ). Mean call z (Ok value)) same given)))

  pub calls_fault : (calls : List AggCall) (arguments : List (List ℕ)) (i : ℕ) (call : AggCall) (held places : List ℕ) (fault : CallFault) → i < length calls → length calls ≡ length arguments → call ≡ get_or calls i call → held ≡ get_or arguments i held → places ≡ held →
      Answers (Mean call places) (Err fault) → Answers (Gather (calls_mean rows calls arguments group)) (Err fault)
  calls_fault calls arguments i call held places (Fault fault) within many is at same given =
      one_faults (call_fault calls arguments i call held fault within (omega (arith, many)) is at (subst (λ (z : List ℕ). Mean call z (Err fault)) same given))
  calls_fault calls arguments i call held places OutOfMemory within many is at same given = tt

  pub no_call_given : (calls : List AggCall) (arguments : List (List ℕ)) (values : List Value) → values ≡ [] → EachGives (calls_mean rows (take 0 calls) (take 0 arguments) group) values
  no_call_given calls arguments values none = subst (EachGives (calls_mean rows [] [] group)) (sym none) tt

  pub calls_all : (calls : List AggCall) (arguments : List (List ℕ)) (i : ℕ) (values : List Value) → length calls ≤ i → length calls ≡ length arguments → EachGives (calls_mean rows (take i calls) (take i arguments) group) values → Gather (calls_mean rows calls arguments group) (Ok values)
  calls_all calls arguments i values past many each =
      all_give (subst (λ (z : List (List ℕ)). EachGives (calls_mean rows calls z group) values) (take_all i arguments (omega (arith, many)))
      (subst (λ (z : List AggCall). EachGives (calls_mean rows z (take i arguments) group) values) (take_all i calls past) each))

-- ---- all groups

module _ (table : Rows) (calls : List AggCall) (arguments : List (List ℕ)) where
  abbrev pub RowMeans : Group → Meaning (List Value)
  RowMeans group = Gather (calls_mean table.rows calls arguments group)

  pub groups_more : (groups : List Group) (i : ℕ) (group : Group) (rows after : List (List Value)) (row : List Value) → i < length groups → group ≡ get_or groups i group → EachGives (map RowMeans (take i groups)) rows → RowMeans group (Ok row) → after ≡ rows ++ row ∷ [] → EachGives (map RowMeans (take (i + 1) groups)) after
  groups_more groups i group rows after row within is each given pushed =
      subst (λ (n : ℕ). EachGives (map RowMeans (take n groups)) after) (sym (one_more i))
      (subst (EachGives (map RowMeans (take (suc i) groups))) (sym pushed) (each_next RowMeans groups i group rows row within is each given))

  pub groups_fault : (groups : List Group) (i : ℕ) (group : Group) (fault : CallFault) → i < length groups → group ≡ get_or groups i group → Answers (RowMeans group) (Err fault) → Answers (Aggregates table calls arguments groups) (Err fault)
  groups_fault groups i group (Fault fault) within is given = one_faults (some_faults RowMeans groups i group fault within is given)
  groups_fault groups i group OutOfMemory within is given = tt

  pub nothing_given : (groups : List Group) (rows : List (List Value)) → rows ≡ [] → EachGives (map RowMeans (take 0 groups)) rows
  nothing_given groups rows none = subst (EachGives (map RowMeans (take 0 groups))) (sym none) tt

  pub groups_all : (groups : List Group) (i : ℕ) (rows : List (List Value)) → length groups ≤ i → EachGives (map RowMeans (take i groups)) rows → Aggregated table.rows calls arguments groups (Ok rows)
  groups_all groups i rows past each = all_give (subst (λ (z : List Group). EachGives (map RowMeans z) rows) (take_all i groups past) each)
