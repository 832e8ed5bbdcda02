-- What a set of keys says of their values.
use Rattle.std.proofs.Common.{◌≡◌, ◌+◌, ℕ, Bool, true, false, if◌then◌else◌, ◌||◌, not, cond, List, [], ◌∷◌, ◌++◌, length, map, position, Some, None, nat_lt, refl, ap, sym, ◌∙◌}
use Rattle.std.specs.List.{list_any, prefix_len, position_or_len, IsDistinct, AllByRecursion}
use Rattle.std.proofs.lemmas.Bool.{false≢true}
use Rattle.std.proofs.lemmas.List.{length-map, map_push}
use Rattle.indexmap.specs.IndexSet.{insert_key}
use Rattle.sql_types.specs.declared.value.Value.{Value}
use Rattle.sql_types.specs.SameValue.{same_values}
use Rattle.sql_types.specs.Parted.{Each, Apart}
use Rattle.key_classes.specs.declared.key.Key.{Key}
use Rattle.key_classes.specs.Classes.{with_key, number_of}
use Rattle.key_classes.specs.Keys.{values_of}
use Rattle.key_classes.specs.KeyLaws.{itself}
use Rattle.key_classes.proofs.ClassLaws.{number_of-with_key}

-- whether two keys have the same values
abbrev pub same_keys : Key → Key → Bool
same_keys x y = same_values (values_of x) (values_of y)

module _ {X Y : Type 0} (test : Y → Bool) (f : X → Y) where
  prefix_len-map : (xs : List X) → prefix_len (λ x. not (test (f x))) xs ≡ prefix_len (λ y. not (test y)) (map f xs)
  prefix_len-map [] = refl
  prefix_len-map (x ∷ xs) = ap (λ n. cond (not (test (f x))) (1 + n) 0) (prefix_len-map xs)

  position-map : (xs : List X) → position (λ x. test (f x)) xs ≡ position test (map f xs)
  position-map xs =
      ap (λ n. cond (nat_lt n (length xs)) (Some n) None) (prefix_len-map xs)
      ∙ ap (λ n. cond (nat_lt (position_or_len test (map f xs)) n) (Some (position_or_len test (map f xs))) None) (sym (length-map xs f))

  list_any-map : (xs : List X) → list_any (λ x. test (f x)) xs ≡ list_any test (map f xs)
  list_any-map [] = refl
  list_any-map (x ∷ xs) = ap (λ b. test (f x) || b) (list_any-map xs)

pub number-map : (keys : List Key) (key : List Value) → position (λ k. same_values key (values_of k)) keys ≡ number_of (map values_of keys) key
number-map keys key = position-map (same_values key) values_of keys

chosen : (b : Bool) (keys : List Key) (key : Key) → map values_of (if b then keys else keys ++ key ∷ []) ≡ cond b (map values_of keys) (map values_of keys ++ values_of key ∷ [])
chosen true keys key = refl
chosen false keys key = map_push values_of keys key

-- the values of the keys after an insertion
pub with_key-map : (keys : List Key) (key : Key) → map values_of (insert_key same_keys keys key) ≡ with_key (map values_of keys) (values_of key)
with_key-map keys key =
    chosen (list_any (same_keys key) keys) keys key
    ∙ ap (λ b. cond b (map values_of keys) (map values_of keys ++ values_of key ∷ [])) (list_any-map (same_values (values_of key)) values_of keys)

-- the place of a key after an insertion
pub inserted_number : (keys after : List Key) (key : Key) (values : List (List Value)) (n : ℕ) → after ≡ insert_key same_keys keys key → n ≡ position_or_len (same_keys key) keys → values ≡ map values_of after → number_of values (values_of key) ≡ Some n
inserted_number keys after key values n inserted at seen =
    ap (λ (z : List (List Value)). number_of z (values_of key)) (seen ∙ ap (map values_of) inserted ∙ with_key-map keys key)
    ∙ number_of-with_key (map values_of keys) (values_of key)
    ∙ ap Some (sym (prefix_len-map (same_values (values_of key)) values_of keys) ∙ sym at)

apart_from : (key : Key) (keys : List Key) → AllByRecursion (λ other. same_keys key other ≡ false) keys → Each (λ other. values_of key ≡ other → ⊥) (map values_of keys)
apart_from key [] each = tt
apart_from key (k ∷ keys) each = (λ same. false≢true (sym each.0 ∙ ap (same_values (values_of key)) (sym same) ∙ itself (values_of key)), apart_from key keys each.1)

-- no two of the values are the same
pub apart_values : (keys : List Key) → IsDistinct same_keys keys → Apart (map values_of keys)
unfolding IsDistinct
apart_values [] distinct = tt
apart_values (k ∷ keys) distinct = (apart_from k keys distinct.0, apart_values keys distinct.1)
