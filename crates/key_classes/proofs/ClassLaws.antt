-- The numbers of keys: a key that is there has a number, which it keeps, and only the same key has it.
use Rattle.std.proofs.Common.{◌≡◌, ◌+◌, ◌<◌, ◌≤◌, ℕ, suc, Bool, true, false, cond, not, ◌||◌, List, [], ◌∷◌, ◌++◌, length, position, slice_get, get_or, ◌⊎◌, inl, inr, Option, Some, None, nat_lt, refl, ap, sym, ◌∙◌, arith}
use Rattle.std.specs.List.{list_any, position_or_len}
use Rattle.std.proofs.lemmas.Bool.{false≢true, ltb-true, ltb-false, lt-ltb}
use Rattle.std.proofs.lemmas.List.Quantifiers.{position-Some}
use Rattle.std.proofs.lemmas.List.Sums.{prefix_len-le-length}
use Rattle.std.proofs.lemmas.Option.{none-some, same_Some, slice_get-get_or}
use Rattle.sql_types.specs.declared.value.Value.{Value}
use Rattle.sql_types.specs.SameValue.{same_values}
use Rattle.sql_types.specs.Parted.{Each}
use Rattle.key_classes.specs.Classes.{with_key, number_of}
use Rattle.key_classes.specs.KeyLaws.{told, itself}

either : {P : Type 0} (b : Bool) → (b ≡ true → P) → (b ≡ false → P) → P
either true is not_so = is refl
either false is not_so = not_so refl

-- ---- the first of a list that passes a test

module _ {X : Type 0} (p : X → Bool) where
  -- its place, or the end
  abbrev pub place : List X → ℕ
  place xs = position_or_len p xs

  place_here : (x : X) (xs : List X) → p x ≡ true → place (x ∷ xs) ≡ 0
  place_here x xs e = ap (λ b. cond (not b) (1 + place xs) 0) e

  place_later : (x : X) (xs : List X) → p x ≡ false → place (x ∷ xs) ≡ suc (place xs)
  place_later x xs e = let next : 1 + place xs ≡ suc (place xs) = omega arith in ap (λ b. cond (not b) (1 + place xs) 0) e ∙ next

  pub found_is : (xs : List X) → place xs < length xs → position p xs ≡ Some (place xs)
  found_is xs within = ap (λ b. cond b (Some (place xs)) None) (lt-ltb (place xs) (length xs) within)

  pub found_or_not : (xs : List X) → ((place xs < length xs) × (position p xs ≡ Some (place xs))) ⊎ ((place xs ≡ length xs) × (position p xs ≡ None))
  found_or_not xs = by (nat_lt (place xs) (length xs)) refl
    where
      by : (b : Bool) → nat_lt (place xs) (length xs) ≡ b → ((place xs < length xs) × (position p xs ≡ Some (place xs))) ⊎ ((place xs ≡ length xs) × (position p xs ≡ None))
      by true e = inl (ltb-true (place xs) (length xs) e, ap (λ b. cond b (Some (place xs)) None) e)
      by false e = inr (omega (arith, ltb-false (place xs) (length xs) e, prefix_len-le-length (λ x. not (p x)) xs), ap (λ b. cond b (Some (place xs)) None) e)

  pub any_within : (xs : List X) → list_any p xs ≡ true → place xs < length xs
  any_within [] any = absurd (false≢true any)
  any_within (x ∷ xs) any = either (p x)
      (λ e. omega (arith, place_here x xs e))
      (λ e. omega (arith, place_later x xs e, any_within xs (ap (λ b. b || list_any p xs) (sym e) ∙ any)))

  pub none_ends : (xs : List X) → list_any p xs ≡ false → place xs ≡ length xs
  none_ends [] none = refl
  none_ends (x ∷ xs) none = either (p x)
      (λ e. absurd (false≢true (sym none ∙ ap (λ b. b || list_any p xs) e)))
      (λ e. place_later x xs e ∙ ap suc (none_ends xs (ap (λ b. b || list_any p xs) (sym e) ∙ none)))

  pub place_kept : (xs : List X) (y : X) → place xs < length xs → place (xs ++ y ∷ []) ≡ place xs
  place_kept [] y within = absurd (omega arith)
  place_kept (x ∷ xs) y within = either (p x)
      (λ e. place_here x (xs ++ y ∷ []) e ∙ sym (place_here x xs e))
      (λ e. place_later x (xs ++ y ∷ []) e ∙ ap suc (place_kept xs y (omega (arith, within, place_later x xs e))) ∙ sym (place_later x xs e))

  pub place_last : (xs : List X) (y : X) → place xs ≡ length xs → p y ≡ true → place (xs ++ y ∷ []) ≡ length xs
  place_last [] y ends passes = place_here y [] passes
  place_last (x ∷ xs) y ends passes = either (p x)
      (λ e. let here = place_here x xs e in absurd (omega arith))
      (λ e. place_later x (xs ++ y ∷ []) e ∙ ap suc (place_last xs y (omega (arith, ends, place_later x xs e)) passes))

  pub longer : (xs : List X) (y : X) → length (xs ++ y ∷ []) ≡ suc (length xs)
  longer [] y = refl
  longer (x ∷ xs) y = ap suc (longer xs y)

-- ---- the keys after one is added

abbrev there : List (List Value) → List Value → Bool
there keys key = list_any (same_values key) keys

known : (keys : List (List Value)) (key : List Value) → there keys key ≡ true → with_key keys key ≡ keys
known keys key e = ap (λ b. cond b keys (keys ++ key ∷ [])) e

fresh : (keys : List (List Value)) (key : List Value) → there keys key ≡ false → with_key keys key ≡ keys ++ key ∷ []
fresh keys key e = ap (λ b. cond b keys (keys ++ key ∷ [])) e

absent : (keys : List (List Value)) (key : List Value) → number_of keys key ≡ None → there keys key ≡ false
absent keys key none = by (there keys key) refl
  where
    by : (b : Bool) → there keys key ≡ b → b ≡ false
    by true e = absurd (none-some (place (same_values key) keys) (sym none ∙ found_is (same_values key) keys (any_within (same_values key) keys e)))
    by false e = refl

present : (keys : List (List Value)) (key : List Value) (n : ℕ) → number_of keys key ≡ Some n → there keys key ≡ true
present keys key n found = by (there keys key) refl
  where
    by : (b : Bool) → there keys key ≡ b → b ≡ true
    by true e = refl
    by false e =
        elim (found_or_not (same_values key) keys) [
          | inl w ↦ let ends = none_ends (same_values key) keys e in let within = w.0 in absurd (omega arith)
          | inr w ↦ absurd (none-some n (sym w.1 ∙ found))
        ]

-- a key that is there changes nothing
pub with_key-known : (keys : List (List Value)) (key : List Value) (n : ℕ) → number_of keys key ≡ Some n → with_key keys key ≡ keys
with_key-known keys key n found = known keys key (present keys key n found)

-- a new key goes last
pub with_key-new : (keys : List (List Value)) (key : List Value) → number_of keys key ≡ None → with_key keys key ≡ keys ++ key ∷ []
with_key-new keys key none = fresh keys key (absent keys key none)

-- ---- numbers

-- a number is that of a place
pub key_at : (keys : List (List Value)) (key : List Value) (n : ℕ) → number_of keys key ≡ Some n → slice_get keys n ≡ Some key
key_at keys key n found =
    let at = position-Some (same_values key) keys n key found in
    slice_get-get_or keys n key at.0 ∙ ap Some (sym (told key (get_or keys n key) at.1))

pub number_within : (keys : List (List Value)) (key : List Value) (n : ℕ) → number_of keys key ≡ Some n → n < length keys
number_within keys key n found = (position-Some (same_values key) keys n key found).0

-- two keys have one number only where they are the same
pub number_tells : (keys : List (List Value)) (key other : List Value) (n : ℕ) → number_of keys key ≡ Some n → number_of keys other ≡ Some n → key ≡ other
number_tells keys key other n found also = same_Some key other (sym (key_at keys key n found) ∙ key_at keys other n also)

-- a key that was added has a number
pub number_of-with_key : (keys : List (List Value)) (key : List Value) → number_of (with_key keys key) key ≡ Some (position_or_len (same_values key) keys)
number_of-with_key keys key = by (there keys key) refl
  where
    by : (b : Bool) → there keys key ≡ b → number_of (with_key keys key) key ≡ Some (place (same_values key) keys)
    by true e = ap (λ (z : List (List Value)). number_of z key) (known keys key e) ∙ found_is (same_values key) keys (any_within (same_values key) keys e)
    by false e =
        let last = place_last (same_values key) keys key (none_ends (same_values key) keys e) (itself key) in
        ap (λ (z : List (List Value)). number_of z key) (fresh keys key e)
        ∙ found_is (same_values key) (keys ++ key ∷ []) (omega (arith, last, longer (same_values key) keys key))
        ∙ ap Some (last ∙ sym (none_ends (same_values key) keys e))

-- a new key's number is the number of keys before it
pub number_of-new : (keys : List (List Value)) (key : List Value) → number_of keys key ≡ None → number_of (with_key keys key) key ≡ Some (length keys)
number_of-new keys key none = number_of-with_key keys key ∙ ap Some (none_ends (same_values key) keys (absent keys key none))

-- a key keeps its number
pub number_kept : (keys : List (List Value)) (key other : List Value) (n : ℕ) → number_of keys key ≡ Some n → number_of (with_key keys other) key ≡ Some n
number_kept keys key other n found = by (there keys other) refl
  where
    by : (b : Bool) → there keys other ≡ b → number_of (with_key keys other) key ≡ Some n
    by true e = ap (λ (z : List (List Value)). number_of z key) (known keys other e) ∙ found
    by false e =
        let test = same_values key in
        let within = any_within test keys (present keys key n found) in
        let stays = place_kept test keys other within in
        ap (λ (z : List (List Value)). number_of z key) (fresh keys other e)
        ∙ found_is test (keys ++ other ∷ []) (omega (arith, stays, within, longer test keys other))
        ∙ ap Some stays ∙ sym (found_is test keys within) ∙ found

-- whether a key that was added is new is told by its number
pub was_new : (keys : List (List Value)) (key : List Value) (n : ℕ) → number_of (with_key keys key) key ≡ Some n → length keys ≤ n → number_of keys key ≡ None
was_new keys key n found past = by (number_of keys key) refl
  where
    by : (o : Option ℕ) → number_of keys key ≡ o → o ≡ None
    by None e = refl
    by (Some m) e =
        let same = same_Some m n (sym (number_kept keys key key m e) ∙ found) in
        let within = number_within keys key m e in
        absurd (omega arith)

pub was_known : (keys : List (List Value)) (key : List Value) (n : ℕ) → number_of (with_key keys key) key ≡ Some n → n < length keys → number_of keys key ≡ Some n
was_known keys key n found within = by (number_of keys key) refl
  where
    by : (o : Option ℕ) → number_of keys key ≡ o → o ≡ Some n
    by None e = let same = same_Some (length keys) n (sym (number_of-new keys key e) ∙ found) in absurd (omega arith)
    by (Some m) e = sym (number_kept keys key key m e) ∙ found

-- ---- no two keys are the same

differs : (key : List Value) (keys : List (List Value)) → there keys key ≡ false → Each (λ other. other ≡ key → ⊥) keys
differs key [] none = tt
differs key (x ∷ xs) none = either (same_values key x)
    (λ e. absurd (false≢true (sym none ∙ ap (λ b. b || there xs key) e)))
    (λ e. (
      λ same. false≢true (sym e ∙ ap (same_values key) same ∙ itself key),
      differs key xs (ap (λ b. b || there xs key) (sym e) ∙ none),
    ))

-- a key without a number is none of the keys
pub none_same : (keys : List (List Value)) (key : List Value) → number_of keys key ≡ None → Each (λ other. other ≡ key → ⊥) keys
none_same keys key none = differs key keys (absent keys key none)
