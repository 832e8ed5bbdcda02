-- Rows that go into the groups of their keys one after another are parted by their keys.
use Rattle.std.proofs.Common.{◌≡◌, ℕ, zero, suc, ◌+◌, ◌<◌, ◌≤◌, List, [], ◌∷◌, ◌++◌, length, get_or, map, take, ◌⊎◌, inl, inr, Option, None, Some, refl, ap, sym, ◌∙◌, subst, arith}
use Rattle.std.specs.Prelude.{slice_get}
use Rattle.std.specs.List.{flat_map}
use Rattle.std.proofs.lemmas.List.{append_assoc, map-append, length-map, length-take, get_or_default}
use Rattle.std.proofs.lemmas.Option.{none-some, same_Some, slice_get_within}
use Rattle.sql_types.specs.declared.value.Value.{Value}
use Rattle.sql_types.specs.Arranged.{Permutes, permutes_skip, permutes_swap, permutes_then}
use Rattle.sql_types.specs.Parted.{Group, Each, Apart, Rising, Parted, numbers_from}
use Rattle.sql_types.proofs.Orders.{permutes_refl}
use Rattle.key_classes.specs.Classes.{key_of, with_key, number_of}
use Rattle.key_classes.proofs.ClassLaws.{key_at, number_kept, number_of-new, with_key-known, with_key-new}
use Rattle.eval_groups.specs.declared.groups.Group as declared
use Rattle.std.proofs.Math.ListN.{set}
use Rattle.eval_groups.specs.Groups.{part, parts, keys_of, with_member}
use Rattle.eval_groups.proofs.PartedLaws.{each_both, each_more, permutes_behind, permutes_past, rising_more}

-- ---- the rows so far, and one more

numbers_more : (n : ℕ) (keys : List (List Value)) (key : List Value) → numbers_from n (keys ++ key ∷ []) ≡ numbers_from n keys ++ (n + length keys) ∷ []
numbers_more n [] key =
    let same : n ≡ n + 0 = omega arith in
    ap (λ (m : ℕ). m ∷ []) same
numbers_more n (other ∷ keys) key =
    let same : suc n + length keys ≡ n + length (other ∷ keys) = omega arith in
    ap (λ (z : List ℕ). n ∷ z) (numbers_more (suc n) keys key ∙ ap (λ (m : ℕ). numbers_from (suc n) keys ++ m ∷ []) same)

next : {X : Type 0} (xs : List X) (i : ℕ) (x : X) → i < length xs → x ≡ get_or xs i x → take (suc i) xs ≡ take i xs ++ x ∷ []
next [] i x within is = absurd (omega arith)
next (y ∷ ys) zero x within is = ap (λ z. z ∷ []) (sym is)
next (y ∷ ys) (suc i) x within is = ap (λ z. y ∷ z) (next ys i x (omega arith) is)

-- the keys of one row more
keys_more : (columns : List ℕ) (rows : List (List Value)) (i : ℕ) (row : List Value) → i < length rows → row ≡ get_or rows i row → keys_of columns (take (i + 1) rows) ≡ keys_of columns (take i rows) ++ key_of columns row ∷ []
keys_more columns rows i row within is =
    let one_more : i + 1 ≡ suc i = omega arith in
    ap (keys_of columns) (ap (λ (n : ℕ). take n rows) one_more ∙ next rows i row within is) ∙ map-append (key_of columns) (take i rows) (row ∷ [])

keys_long : (columns : List ℕ) (rows : List (List Value)) (i : ℕ) → i < length rows → length (keys_of columns (take i rows)) ≡ i
keys_long columns rows i within = omega (arith, length-map (take i rows) (key_of columns), length-take i rows)

-- the numbers of one row more
pub numbers_one_more : (rows : List (List Value)) (i : ℕ) (numbers after : List ℕ) → i < length rows → numbers ≡ numbers_from 0 (keys_of [] (take i rows)) → after ≡ numbers ++ i ∷ [] → after ≡ numbers_from 0 (keys_of [] (take (i + 1) rows))
numbers_one_more rows i numbers after within is after_is =
    let row : List Value = get_or rows i [] in
    let long : 0 + length (keys_of [] (take i rows)) ≡ i = omega (arith, keys_long [] rows i within) in
    after_is ∙ ap (λ (z : List ℕ). z ++ i ∷ []) is ∙ ap (λ (n : ℕ). numbers_from 0 (keys_of [] (take i rows)) ++ n ∷ []) (sym long)
    ∙ sym (ap (numbers_from 0) (keys_more [] rows i row within (get_or_default rows i [] row within)) ∙ numbers_more 0 (keys_of [] (take i rows)) (key_of [] row))

-- ---- where a row goes

abbrev pub group_of : List Value → List ℕ → Group
group_of key members = record { key = key; members = members }

abbrev group_keys : List Group → List (List Value)
group_keys = map (λ (g : Group). g.key)

-- the number is that of a group of the key, or the next one
abbrev Goes : List Group → ℕ → List Value → Type 0
Goes [] class key = class ≡ 0
Goes (g ∷ groups) zero key = g.key ≡ key
Goes (g ∷ groups) (suc class) key = Goes groups class key

goes_there : (groups : List Group) (class : ℕ) (key : List Value) → slice_get (group_keys groups) class ≡ Some key → Goes groups class key
goes_there [] class key at = absurd (none-some key at)
goes_there (g ∷ groups) zero key at = same_Some g.key key at
goes_there (g ∷ groups) (suc class) key at = goes_there groups class key at

goes_next : (groups : List Group) (class : ℕ) (key : List Value) → class ≡ length groups → Goes groups class key
goes_next [] class key is = is
goes_next (g ∷ groups) zero key is = absurd (omega arith)
goes_next (g ∷ groups) (suc class) key is = goes_next groups class key (omega (arith, is))

-- the number that a key has among the keys of the groups says so
goes : (groups : List Group) (class : ℕ) (key : List Value) → number_of (with_key (group_keys groups) key) key ≡ Some class → Goes groups class key
goes groups class key found = by (number_of (group_keys groups) key) refl
  where
    by : (o : Option ℕ) → number_of (group_keys groups) key ≡ o → Goes groups class key
    by None none = goes_next groups class key (same_Some class (length (group_keys groups)) (sym found ∙ number_of-new (group_keys groups) key none) ∙ length-map groups (λ (g : Group). g.key))
    by (Some m) there =
        goes_there groups class key
        (key_at (group_keys groups) key class (there ∙ (sym (number_kept (group_keys groups) key key m there) ∙ found)))

kept_keys : (groups : List Group) (class row : ℕ) (key : List Value) → class < length groups → group_keys (with_member groups class key row) ≡ group_keys groups
kept_keys [] class row key within = absurd (omega arith)
kept_keys (g ∷ groups) zero row key within = refl
kept_keys (g ∷ groups) (suc class) row key within = ap (λ (z : List (List Value)). g.key ∷ z) (kept_keys groups class row key (omega arith))

next_keys : (groups : List Group) (class row : ℕ) (key : List Value) → class ≡ length groups → group_keys (with_member groups class key row) ≡ group_keys groups ++ key ∷ []
next_keys [] class row key is = refl
next_keys (g ∷ groups) zero row key is = absurd (omega arith)
next_keys (g ∷ groups) (suc class) row key is = ap (λ (z : List (List Value)). g.key ∷ z) (next_keys groups class row key (omega (arith, is)))

-- the keys of the groups after a row was added
keys_after : (groups : List Group) (class row : ℕ) (key : List Value) → number_of (with_key (group_keys groups) key) key ≡ Some class → group_keys (with_member groups class key row) ≡ with_key (group_keys groups) key
keys_after groups class row key found = by (number_of (group_keys groups) key) refl
  where
    by : (o : Option ℕ) → number_of (group_keys groups) key ≡ o → group_keys (with_member groups class key row) ≡ with_key (group_keys groups) key
    by None none =
        next_keys groups class row key (same_Some class (length (group_keys groups)) (sym found ∙ number_of-new (group_keys groups) key none) ∙ length-map groups (λ (g : Group). g.key))
        ∙ sym (with_key-new (group_keys groups) key none)
    by (Some m) there =
        let same : Some m ≡ Some class = sym (number_kept (group_keys groups) key key m there) ∙ found in
        let within : class < length (group_keys groups) = slice_get_within (group_keys groups) class key (key_at (group_keys groups) key class (there ∙ same)) in
        kept_keys groups class row key (omega (arith, within, length-map groups (λ (g : Group). g.key)))
        ∙ sym (with_key-known (group_keys groups) key m there)

-- a row in the group of its number
pub put_in : (groups : List declared.Group) (class row : ℕ) (key : List Value) (held : declared.Group) (rows : List ℕ) → class < length groups → held ≡ get_or groups class held → rows ≡ held.rows ++ row ∷ [] →
    parts (set groups class (record { key = held.key; rows = rows })) ≡ with_member (parts groups) class key row
put_in [] class row key held rows within at is = absurd (omega arith)
put_in (g ∷ groups) zero row key held rows within at is =
    ap (λ (z : List ℕ). group_of held.key z ∷ parts groups) is ∙ ap (λ (z : declared.Group). group_of z.key (z.rows ++ row ∷ []) ∷ parts groups) at
put_in (g ∷ groups) (suc class) row key held rows within at is = ap (λ (z : List Group). part g ∷ z) (put_in groups class row key held rows (omega arith) at is)

-- a row that begins a group
pub put_last : (groups after : List declared.Group) (class row : ℕ) (key : List Value) (group : declared.Group) → length groups ≤ class → after ≡ groups ++ group ∷ [] → part group ≡ group_of key (row ∷ []) → parts after ≡ with_member (parts groups) class key row
put_last groups after class row key group past pushed is = ap parts pushed ∙ last groups class past
  where
    last : (list : List declared.Group) (k : ℕ) → length list ≤ k → parts (list ++ group ∷ []) ≡ with_member (parts list) k key row
    last [] k past = ap (λ (z : Group). z ∷ []) is
    last (g ∷ list) zero past = absurd (omega arith)
    last (g ∷ list) (suc k) past = ap (λ (z : List Group). part g ∷ z) (last list k (omega arith))

-- ---- one row more is parted too

module _ (n : ℕ) (key : List Value) where
  -- each row is in a group
  last_first : (xs : List ℕ) → Permutes (xs ++ n ∷ []) (n ∷ xs)
  last_first [] = permutes_refl (n ∷ [])
  last_first (x ∷ xs) = permutes_then (permutes_skip (last_first xs)) permutes_swap

  goes_in : (groups : List Group) (class : ℕ) → Permutes (n ∷ flat_map (λ (g : Group). g.members) groups) (flat_map (λ (g : Group). g.members) (with_member groups class key n))
  goes_in [] class = permutes_refl (n ∷ [])
  goes_in (g ∷ groups) zero =
      subst (Permutes (n ∷ (g.members ++ flat_map (λ (h : Group). h.members) groups))) (sym (append_assoc g.members (n ∷ []) (flat_map (λ (h : Group). h.members) groups)))
      (permutes_past n g.members (flat_map (λ (h : Group). h.members) groups))
  goes_in (g ∷ groups) (suc class) = permutes_then (permutes_past n g.members (flat_map (λ (h : Group). h.members) groups)) (permutes_behind g.members (goes_in groups class))

  -- the rows of a group have its key
  alike_after : (keys : List (List Value)) (groups : List Group) (class : ℕ) → slice_get keys n ≡ Some key → Goes groups class key →
      Each (λ (g : Group). Each (λ i. slice_get keys i ≡ Some g.key) g.members) groups → Each (λ (g : Group). Each (λ i. slice_get keys i ≡ Some g.key) g.members) (with_member groups class key n)
  alike_after keys [] class at goes each = ((at, tt), tt)
  alike_after keys (g ∷ groups) zero at goes each = (each_more (λ i. slice_get keys i ≡ Some g.key) g.members (n ∷ []) each.0 (at ∙ ap Some (sym goes), tt), each.1)
  alike_after keys (g ∷ groups) (suc class) at goes each = (each.0, alike_after keys groups class at goes each.1)

  filled_last : (members : List ℕ) → members ++ n ∷ [] ≡ [] → ⊥
  filled_last [] none = cc
  filled_last (i ∷ members) none = cc

  one_filled : n ∷ [] ≡ [] → ⊥
  one_filled none = cc

  filled_after : (groups : List Group) (class : ℕ) → Each (λ (g : Group). g.members ≡ [] → ⊥) groups → Each (λ (g : Group). g.members ≡ [] → ⊥) (with_member groups class key n)
  filled_after [] class each = (one_filled, tt)
  filled_after (g ∷ groups) zero each = (filled_last g.members, each.1)
  filled_after (g ∷ groups) (suc class) each = (each.0, filled_after groups class each.1)

  -- the rows of a group stand in their own order
  rising_after : (groups : List Group) (class : ℕ) → Each (λ (g : Group). Each (λ i. i < n) g.members) groups → Each (λ (g : Group). Rising g.members) groups → Each (λ (g : Group). Rising g.members) (with_member groups class key n)
  rising_after [] class below each = (tt, tt)
  rising_after (g ∷ groups) zero below each = (rising_more g.members n each.0 below.0, each.1)
  rising_after (g ∷ groups) (suc class) below each = (each.0, rising_after groups class below.1 each.1)

  -- and the groups in that of their first rows
  abbrev firsts : List Group → List ℕ
  firsts = flat_map (λ (g : Group). take 1 g.members)

  first_stays : (members : List ℕ) → (members ≡ [] → ⊥) → take 1 (members ++ n ∷ []) ≡ take 1 members
  first_stays [] some = absurd (some refl)
  first_stays (i ∷ members) some = refl

  firsts_after : (groups : List Group) (class : ℕ) → Goes groups class key → Each (λ (g : Group). g.members ≡ [] → ⊥) groups → (firsts (with_member groups class key n) ≡ firsts groups) ⊎ (firsts (with_member groups class key n) ≡ firsts groups ++ n ∷ [])
  firsts_after [] class goes some = inr refl
  firsts_after (g ∷ groups) zero goes some = inl (ap (λ (z : List ℕ). z ++ firsts groups) (first_stays g.members some.0))
  firsts_after (g ∷ groups) (suc class) goes some =
      elim (firsts_after groups class goes some.1) as (λ _. (firsts (with_member (g ∷ groups) (suc class) key n) ≡ firsts (g ∷ groups)) ⊎ (firsts (with_member (g ∷ groups) (suc class) key n) ≡ firsts (g ∷ groups) ++ n ∷ [])) [
        | inl same ↦ inl (ap (λ (z : List ℕ). take 1 g.members ++ z) same)
        | inr more ↦ inr (ap (λ (z : List ℕ). take 1 g.members ++ z) more ∙ sym (append_assoc (take 1 g.members) (firsts groups) (n ∷ [])))
      ]

  first_below : (members : List ℕ) → Each (λ i. i < n) members → Each (λ i. i < n) (take 1 members)
  first_below [] below = tt
  first_below (i ∷ members) below = (below.0, tt)

  firsts_below : (groups : List Group) → Each (λ (g : Group). Each (λ i. i < n) g.members) groups → Each (λ i. i < n) (firsts groups)
  firsts_below [] below = tt
  firsts_below (g ∷ groups) below = each_more (λ i. i < n) (take 1 g.members) (firsts groups) (first_below g.members below.0) (firsts_below groups below.1)

  rising_firsts : (groups : List Group) (class : ℕ) → Goes groups class key → Each (λ (g : Group). g.members ≡ [] → ⊥) groups → Each (λ (g : Group). Each (λ i. i < n) g.members) groups → Rising (firsts groups) → Rising (firsts (with_member groups class key n))
  rising_firsts groups class goes some below rising =
      elim (firsts_after groups class goes some) as (λ _. Rising (firsts (with_member groups class key n))) [
        | inl same ↦ subst Rising (sym same) rising
        | inr more ↦ subst Rising (sym more) (rising_more (firsts groups) n rising (firsts_below groups below))
      ]

-- the key of a row is still its key where one more comes
at_front : (keys : List (List Value)) (key other : List Value) (i : ℕ) → slice_get keys i ≡ Some other → slice_get (keys ++ key ∷ []) i ≡ Some other
at_front [] key other i at = absurd (none-some other at)
at_front (k ∷ keys) key other zero at = at
at_front (k ∷ keys) key other (suc i) at = at_front keys key other i at

at_end : (keys : List (List Value)) (key : List Value) → slice_get (keys ++ key ∷ []) (length keys) ≡ Some key
at_end [] key = refl
at_end (k ∷ keys) key = at_end keys key

parted_more : (keys : List (List Value)) (groups : List Group) (class : ℕ) (key : List Value) → Parted keys groups → Goes groups class key → Apart (group_keys (with_member groups class key (length keys))) → Parted (keys ++ key ∷ []) (with_member groups class key (length keys))
parted_more keys groups class key parted goes apart =
    let n = length keys in
    let below : Each (λ (g : Group). Each (λ i. i < n) g.members) groups
    = each_both groups (λ g alike. each_both g.members (λ i at. slice_get_within keys i g.key at) alike) parted.alike in
    let zero_on : 0 + n ≡ n = omega arith in
    record {
      whole =
          subst (λ (z : List ℕ). Permutes z (flat_map (λ (g : Group). g.members) (with_member groups class key n))) (sym (numbers_more 0 keys key ∙ ap (λ (m : ℕ). numbers_from 0 keys ++ m ∷ []) zero_on))
          (permutes_then (last_first n key (numbers_from 0 keys)) (permutes_then (permutes_skip parted.whole) (goes_in n key groups class)));
      alike = alike_after n key (keys ++ key ∷ []) groups class (at_end keys key) goes (each_both groups (λ g alike. each_both g.members (λ i at. at_front keys key g.key i at) alike) parted.alike);
      apart = apart;
      filled = filled_after n key groups class parted.filled;
      in_order = rising_after n key groups class below parted.in_order;
      by_first = rising_firsts n key groups class goes parted.filled below parted.by_first;
    }

-- ---- the loop

-- the rows so far are parted, and the groups have the keys that were found
pub record PartedSoFar (columns : List ℕ) (rows : List (List Value)) (classes : List (List Value)) (groups : List declared.Group) : Type 0 where
  pub found : classes ≡ group_keys (parts groups)
  pub parted : Parted (keys_of columns rows) (parts groups)

pub none_parted : (columns : List ℕ) (classes : List (List Value)) (groups : List declared.Group) → classes ≡ [] → groups ≡ [] → PartedSoFar columns [] classes groups
none_parted columns classes groups none empty =
    let start : PartedSoFar columns [] [] [] = record {
      found = refl;
      parted = record {
        whole = permutes_refl [];
        alike = tt;
        apart = tt;
        filled = tt;
        in_order = tt;
        by_first = tt;
      };
    } in
    subst (λ (z : List (List Value)). PartedSoFar columns [] z groups) (sym none) (subst (PartedSoFar columns [] []) (sym empty) start)

pub row_parted : (columns : List ℕ) (rows : List (List Value)) (i class : ℕ) (row given : List Value) (classes added : List (List Value)) (groups after : List declared.Group) → i < length rows → row ≡ get_or rows i row → given ≡ row →
    added ≡ with_key classes (key_of columns given) → number_of added (key_of columns given) ≡ Some class → Apart added → parts after ≡ with_member (parts groups) class (key_of columns given) i →
    PartedSoFar columns (take i rows) classes groups → PartedSoFar columns (take (i + 1) rows) added after
row_parted columns rows i class row given classes added groups after within at same added_is number apart after_is so_far =
    let key = key_of columns given in
    let keys = keys_of columns (take i rows) in
    let long : length keys ≡ i = keys_long columns rows i within in
    let added_from : added ≡ with_key (group_keys (parts groups)) key = added_is ∙ ap (λ (z : List (List Value)). with_key z key) so_far.found in
    let found : number_of (with_key (group_keys (parts groups)) key) key ≡ Some class = ap (λ (z : List (List Value)). number_of z key) (sym added_from) ∙ number in
    let keys_are : group_keys (parts after) ≡ added = ap group_keys after_is ∙ keys_after (parts groups) class i key found ∙ sym added_from in
    let placed : parts after ≡ with_member (parts groups) class key (length keys) = after_is ∙ ap (with_member (parts groups) class key) (sym long) in
    record {
      found = sym keys_are;
      parted =
          subst (λ (z : List (List Value)). Parted z (parts after)) (sym (keys_more columns rows i row within at ∙ ap (λ (z : List Value). keys ++ key_of columns z ∷ []) (sym same)))
          (subst (Parted (keys ++ key ∷ [])) (sym placed)
          (parted_more keys (parts groups) class key so_far.parted (goes (parts groups) class key found)
          (subst (λ (z : List Group). Apart (group_keys z)) placed (subst Apart (sym keys_are) apart))));
    }
