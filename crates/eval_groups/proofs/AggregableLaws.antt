-- When a call may go over columns of a table.
use Rattle.std.proofs.Common.{◌≡◌, ℕ, zero, suc, ◌+◌, ◌<◌, Bool, true, false, ◌&&◌, List, [], ◌∷◌, ◌++◌, length, get_or, map, refl, ap, sym, ◌∙◌, subst, arith}
use Rattle.std.specs.List.{All}
use Rattle.std.proofs.lemmas.Bool.{false≢true}
use Rattle.std.proofs.lemmas.List.{length-map}
use Rattle.std.proofs.lemmas.Option.{slice_get_within}
use Rattle.std.proofs.lemmas.List.Sums.{AllPass-from_list_all}
use Rattle.sql_types.specs.declared.rows.Rows.{Rows}
use Rattle.sql_types.specs.declared.sql_type.Named.{Named}
use Rattle.sql_types.specs.declared.sql_type.SqlType.{SqlType}
use Rattle.sql_types.specs.declared.sql_type.SqlType.TheVariants as ty
use Rattle.sql_types.specs.declared.value.Value.{Value}
use Rattle.sql_types.specs.declared.value.Value.TheVariants.{Null}
use Rattle.sql_types.specs.Parted as parted
use Rattle.sql_types.specs.Parted.{Each, Grouped, numbers_from}
use Rattle.sql_types.specs.Fits.{fits, fits_row}
use Rattle.sql_types.specs.Takes.{fits_types}
use Rattle.sql_types.proofs.TestParts.{first as left_of, second as right_of}
use Rattle.sql_aggregates.specs.declared.call.AggCall.{AggCall}
use Rattle.sql_aggregates.specs.Calls.{lawful, TakesTypes, Addable, all_orderable, places_from}
use Rattle.key_classes.specs.Classes.{key_of}
use Rattle.eval_groups.specs.declared.groups.Group.{Group}
use Rattle.eval_groups.specs.Groups.{parts, keys_of}
use Rattle.eval_groups.specs.Aggregated.{column_types, types_at, lists_of, OneSeparator, Aggregable, AllWithin}
use Rattle.eval_groups.proofs.PartedLaws.{each_both}

both : {a b : Bool} → a ≡ true → b ≡ true → (a && b) ≡ true
both {a} {b} e f = ap (λ x. x && b) e ∙ f

value_fits : (columns : List (Named SqlType)) (row : List Value) (place : ℕ) → place < length columns → fits_row columns row ≡ true → fits (get_or (map (λ c. c.ty) columns) place ty.Int64) (get_or row place Null) ≡ true
value_fits [] row place within fit = absurd (omega arith)
value_fits (c ∷ columns) [] place within fit = absurd (false≢true fit)
value_fits (c ∷ columns) (x ∷ xs) zero within fit = left_of _ _ fit
value_fits (c ∷ columns) (x ∷ xs) (suc place) within fit = value_fits columns xs place (omega arith) (right_of _ _ fit)

-- the values of a row in some columns fit the types of these
pub key_fits : (columns : List (Named SqlType)) (row : List Value) (places : List ℕ) → All (λ (place : ℕ). place < length columns) places → fits_row columns row ≡ true → fits_types (types_at (map (λ c. c.ty) columns) places) (key_of places row) ≡ true
key_fits columns row [] within fit = refl
key_fits columns row (place ∷ places) within fit =
    both (value_fits columns row place (within 0 place (omega arith)) fit) (key_fits columns row places (λ k d w. within (suc k) d (omega (arith, w))) fit)

row_at : (table : Rows) (number : ℕ) → number < length table.rows → fits_row table.columns (get_or table.rows number []) ≡ true
row_at table number within = AllPass-from_list_all (fits_row table.columns) table.rows table.fitting number [] within

-- of what is taken from each row of a group
each_list : (P : List Value → Type 0) (f : ℕ → List Value) (numbers : List ℕ) (count : ℕ) → ((number : ℕ) → number < count → P (f number)) → All (λ (number : ℕ). number < count) numbers → All P (map f numbers)
each_list P f [] count each within k d inside = absurd (omega (arith, inside))
each_list P f (number ∷ numbers) count each within zero d inside = each number (within 0 number (omega arith))
each_list P f (number ∷ numbers) count each within (suc k) d inside = each_list P f numbers count each (λ j e w. within (suc j) e (omega (arith, w))) k d (omega (arith, inside))

-- A call without DISTINCT over columns of types that it takes, where each group has one separator.
pub aggregable_each : (table : Rows) (groups : List Group) (call : AggCall) (places : List ℕ) (argument_types sort_types : List SqlType) → AllWithin table groups → lawful call ≡ true → All (λ (place : ℕ). place < length table.columns) places → types_at (column_types table) places ≡ argument_types ++ sort_types →
    length sort_types ≡ length call.order → all_orderable sort_types ≡ true → places_from (length argument_types) call.order → TakesTypes call.name argument_types → call.distinct ≡ false →
    (length argument_types ≡ 2 → All (λ (group : Group). OneSeparator (lists_of table.rows places group)) groups) → Aggregable table groups call places
aggregable_each table groups call places argument_types sort_types members modifiers within types sorts orderable from taken plain separators = record {
  modifiers = modifiers;
  within = within;
  argument_types = argument_types;
  sort_types = sort_types;
  types = types;
  sorts = sorts;
  taken = taken;
  each = λ k group inside.
      each_list (Addable call argument_types sort_types) (λ number. key_of places (get_or table.rows number [])) (get_or groups k group).rows (length table.rows)
      (λ number there. record {
        taken = taken;
        sorts = sorts;
        orderable_sorts = orderable;
        places = from;
        values = ap (λ (z : List SqlType). fits_types z (key_of places (get_or table.rows number []))) (sym types) ∙ key_fits table.columns (get_or table.rows number []) places within (row_at table number there);
        distinct = λ distinct. absurd (false≢true (sym plain ∙ distinct));
      })
      (members k group inside);
  separators = separators;
}

-- A call without DISTINCT, of at most one argument.
pub aggregable : (table : Rows) (groups : List Group) (call : AggCall) (places : List ℕ) (argument_types sort_types : List SqlType) → AllWithin table groups → lawful call ≡ true → All (λ (place : ℕ). place < length table.columns) places → types_at (column_types table) places ≡ argument_types ++ sort_types →
    length sort_types ≡ length call.order → all_orderable sort_types ≡ true → places_from (length argument_types) call.order → TakesTypes call.name argument_types → call.distinct ≡ false → (length argument_types ≡ 2 → ⊥) → Aggregable table groups call places
aggregable table groups call places argument_types sort_types members modifiers within types sorts orderable from taken plain single =
    aggregable_each table groups call places argument_types sort_types members modifiers within types sorts orderable from taken plain (λ two. absurd (single two))

-- ---- the rows of groups exist

all_each : {X : Type 0} (P : X → Type 0) (xs : List X) → Each P xs → All P xs
all_each P [] each k d inside = absurd (omega (arith, inside))
all_each P (x ∷ xs) each zero d inside = each.0
all_each P (x ∷ xs) each (suc k) d inside = all_each P xs each.1 k d (omega (arith, inside))

numbers_below : (n : ℕ) (keys : List (List Value)) → Each (λ i. i < n + length keys) (numbers_from n keys)
numbers_below n [] = tt
numbers_below n (key ∷ keys) = (omega arith, each_both (numbers_from (suc n) keys) (λ i below. omega arith) (numbers_below (suc n) keys))

rows_below : (count : ℕ) (keys : List (List Value)) (groups : List Group) → Grouped count keys (parts groups) → Each (λ (group : parted.Group). Each (λ i. i < length keys) group.members) (parts groups)
rows_below zero keys groups is =
    subst (Each (λ (group : parted.Group). Each (λ i. i < length keys) group.members)) (sym is)
    (each_both (numbers_from 0 keys) (λ i below. omega arith) (numbers_below 0 keys), tt)
rows_below (suc count) keys groups of_keys = each_both (parts groups) (λ group alike. each_both group.members (λ i at. slice_get_within keys i group.key at) alike) of_keys.alike

all_parts : (n : ℕ) (groups : List Group) → Each (λ (group : parted.Group). Each (λ i. i < n) group.members) (parts groups) → All (λ (group : Group). All (λ (number : ℕ). number < n) group.rows) groups
all_parts n [] each k d inside = absurd (omega (arith, inside))
all_parts n (group ∷ groups) each zero d inside = all_each (λ (i : ℕ). i < n) group.rows each.0
all_parts n (group ∷ groups) each (suc k) d inside = all_parts n groups each.1 k d (omega (arith, inside))

-- Groups that rows are parted into have rows of theirs.
pub groups_within : (table : Rows) (columns : List ℕ) (groups : List Group) → Grouped (length columns) (keys_of columns table.rows) (parts groups) → AllWithin table groups
groups_within table columns groups of_keys =
    subst (λ (n : ℕ). All (λ (group : Group). All (λ (number : ℕ). number < n) group.rows) groups) (length-map table.rows (key_of columns))
    (all_parts (length (keys_of columns table.rows)) groups (rows_below (length columns) (keys_of columns table.rows) groups of_keys))
