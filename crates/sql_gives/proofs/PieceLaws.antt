-- Texts whose symbols pass a test: what is cut from them, joined and put in has only such symbols.
use Rattle.std.proofs.Common.{◌≡◌, ℕ, zero, suc, ℤ, Bool, true, false, List, [], ◌∷◌, ◌++◌, length, reverse, refl}
use Rattle.std.specs.Prelude.{◌-◌, if◌then◌else◌}
use Rattle.std.specs.List.{list_all}
use Rattle.sql_types.proofs.TestParts.{first as left_of, second as right_of}
use Rattle.sql_strings.specs.Texts.{before_place, from_place, part_at, begins_with, put_before, pieces_behind, pieces, singles, split_text, continued_by, joined_by, replaced, repeated, all_joined, drop_front, drop_back}
use Rattle.sql_gives.proofs.EachPasses.{both, all_append, all_reverse, all_drop, all_take}

-- ---- one text

pub from_place_passes : (test : ℕ → Bool) (place : ℤ) (xs : List ℕ) → list_all test xs ≡ true → list_all test (from_place place xs) ≡ true
from_place_passes test place xs all = all_drop test (before_place (length xs) place) xs all

pub part_at_passes : (test : ℕ → Bool) (place : ℤ) (count : ℕ) (xs : List ℕ) → list_all test xs ≡ true → list_all test (part_at place count xs) ≡ true
part_at_passes test place count xs all = all_take test count (from_place place xs) (from_place_passes test place xs all)

front_by : (test : ℕ → Bool) (b : Bool) (x : ℕ) (dropped xs : List ℕ) → list_all test dropped ≡ true → list_all test (x ∷ xs) ≡ true → list_all test (if b then dropped else x ∷ xs) ≡ true
front_by test true x dropped xs fewer all = fewer
front_by test false x dropped xs fewer all = all

pub drop_front_passes : (test drops : ℕ → Bool) (xs : List ℕ) → list_all test xs ≡ true → list_all test (drop_front drops xs) ≡ true
drop_front_passes test drops [] all = refl
drop_front_passes test drops (x ∷ xs) all =
    front_by test (drops x) x (drop_front drops xs) xs (drop_front_passes test drops xs (right_of (test x) _ all)) all

pub drop_back_passes : (test drops : ℕ → Bool) (xs : List ℕ) → list_all test xs ≡ true → list_all test (drop_back drops xs) ≡ true
drop_back_passes test drops xs all =
    all_reverse test (drop_front drops (reverse xs)) (drop_front_passes test drops (reverse xs) (all_reverse test xs all))

pub repeated_passes : (test : ℕ → Bool) (n : ℕ) (xs : List ℕ) → list_all test xs ≡ true → list_all test (repeated n xs) ≡ true
repeated_passes test zero xs all = refl
repeated_passes test (suc n) xs all = all_append test xs (repeated n xs) all (repeated_passes test n xs all)

-- ---- many texts

abbrev pub AllPass : (ℕ → Bool) → List (List ℕ) → Type 0
AllPass test texts = list_all (list_all test) texts ≡ true

pub all_joined_passes : (test : ℕ → Bool) (texts : List (List ℕ)) → AllPass test texts → list_all test (all_joined texts) ≡ true
all_joined_passes test [] all = refl
all_joined_passes test (xs ∷ more) all =
    all_append test xs (all_joined more) (left_of (list_all test xs) _ all) (all_joined_passes test more (right_of (list_all test xs) _ all))

continued_passes : (test : ℕ → Bool) (separator : List ℕ) (texts : List (List ℕ)) → list_all test separator ≡ true → AllPass test texts → list_all test (continued_by separator texts) ≡ true
continued_passes test separator [] between all = refl
continued_passes test separator (xs ∷ more) between all =
    all_append test (separator ++ xs) (continued_by separator more) (all_append test separator xs between (left_of (list_all test xs) _ all))
    (continued_passes test separator more between (right_of (list_all test xs) _ all))

pub joined_passes : (test : ℕ → Bool) (separator : List ℕ) (texts : List (List ℕ)) → list_all test separator ≡ true → AllPass test texts → list_all test (joined_by separator texts) ≡ true
joined_passes test separator [] between all = refl
joined_passes test separator (xs ∷ more) between all =
    all_append test xs (continued_by separator more) (left_of (list_all test xs) _ all) (continued_passes test separator more between (right_of (list_all test xs) _ all))

-- ---- pieces

put_before_passes : (test : ℕ → Bool) (x : ℕ) (texts : List (List ℕ)) → test x ≡ true → AllPass test texts → AllPass test (put_before x texts)
put_before_passes test x [] one all = both (list_all test (x ∷ [])) true (both (test x) true one refl) refl
put_before_passes test x (xs ∷ more) one all =
    both (list_all test (x ∷ xs)) (list_all (list_all test) more) (both (test x) (list_all test xs) one (left_of (list_all test xs) _ all)) (right_of (list_all test xs) _ all)

pieces_by : (test : ℕ → Bool) (b : Bool) (x : ℕ) (behind more : List (List ℕ)) → test x ≡ true → AllPass test behind → AllPass test more → AllPass test (if b then [] ∷ behind else put_before x more)
pieces_by test true x behind more one all others = all
pieces_by test false x behind more one all others = put_before_passes test x more one others

pieces_pass : (test : ℕ → Bool) (separator : List ℕ) (skip : ℕ) (xs : List ℕ) → list_all test xs ≡ true → AllPass test (pieces_behind separator skip xs)
pieces_pass test separator skip [] all = refl
pieces_pass test separator (suc skip) (x ∷ xs) all = pieces_pass test separator skip xs (right_of (test x) _ all)
pieces_pass test separator zero (x ∷ xs) all =
    pieces_by test (begins_with separator (x ∷ xs)) x (pieces_behind separator (length separator - 1) xs) (pieces_behind separator zero xs)
    (left_of (test x) _ all) (pieces_pass test separator (length separator - 1) xs (right_of (test x) _ all)) (pieces_pass test separator zero xs (right_of (test x) _ all))

singles_pass : (test : ℕ → Bool) (xs : List ℕ) → list_all test xs ≡ true → AllPass test (singles xs)
singles_pass test [] all = refl
singles_pass test (x ∷ xs) all =
    both (list_all test (x ∷ [])) (list_all (list_all test) (singles xs)) (both (test x) true (left_of (test x) _ all) refl) (singles_pass test xs (right_of (test x) _ all))

pub split_passes : (test : ℕ → Bool) (separator xs : List ℕ) → list_all test xs ≡ true → AllPass test (split_text separator xs)
split_passes test separator [] all = refl
split_passes test [] (x ∷ xs) all = singles_pass test (x ∷ xs) all
split_passes test (s ∷ ss) (x ∷ xs) all = pieces_pass test (s ∷ ss) 0 (x ∷ xs) all

pub replaced_passes : (test : ℕ → Bool) (old new xs : List ℕ) → list_all test new ≡ true → list_all test xs ≡ true → list_all test (replaced old new xs) ≡ true
replaced_passes test [] new xs put all = all
replaced_passes test (o ∷ old) new xs put all = joined_passes test new (pieces (o ∷ old) xs) put (pieces_pass test (o ∷ old) 0 xs all)
