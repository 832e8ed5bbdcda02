-- How often a row stands in lists that are put together, gone through row by row, or left with each row once.
use Rattle.std.proofs.Common.{◌≡◌, ℕ, zero, suc, ◌+◌, ◌<◌, ◌≤◌, Bool, true, false, cond, List, [], ◌∷◌, ◌++◌, length, get_or, map, take, refl, ap, sym, ◌∙◌, arith, Option, None, Some}
use Rattle.std.specs.List.{flat_map, list_all}
use Rattle.std.proofs.lemmas.List.{map-append, length-map, length-take}
use Rattle.std.proofs.lemmas.List.Concat.{flat_map-cons}
use Rattle.std.proofs.lemmas.List.Quantifiers.{position-Some}
use denote.Ref.{Bor}
use Rattle.sql_types.specs.Combined.{total, at_most_one}
use Rattle.sql_types.specs.Joined.{Row}
use Rattle.sql_types.specs.Parted.{Each}
use Rattle.sql_types.specs.SameValue.{same_values}
use Rattle.key_classes.specs.Classes.{with_key, number_of}
use Rattle.eval_rows.specs.Counts.{shown, count}
use Rattle.key_classes.specs.KeyLaws.{told, itself}
use Rattle.key_classes.proofs.ClassLaws.{with_key-known, with_key-new, number_within, none_same}
use Rattle.eval_rows.proofs.ByClassLaws.{new_number}
use Rattle.eval_rows.proofs.FitLaws.{both}
use Rattle.eval_rows.proofs.JoinLaws.{take_next}
use Rattle.sql_types.proofs.TestParts.{first as left_of, second as right_of}

abbrev pub one : Row → Row → ℕ
one row other = cond (same_values row other) 1 0

pub one_is : (row other : Row) (b : Bool) → same_values row other ≡ b → one row other ≡ cond b 1 0
one_is row other b is = ap (λ z. cond z 1 0) is

pub differs_by : (row other : Row) (b : Bool) → same_values row other ≡ b → (row ≡ other → ⊥) → one row other ≡ 0
differs_by row other true is differs = absurd (differs (told row other is))
differs_by row other false is differs = one_is row other false is

-- ---- lists that are put together

pub count_append : (row : Row) (xs ys : List Row) → count row (xs ++ ys) ≡ count row xs + count row ys
count_append row [] ys = omega arith
count_append row (x ∷ xs) ys = omega (arith, count_append row xs ys)

module _ {A : Type 0} (rows : A → List Row) where
  pub count_flat : (row : Row) (xs : List A) → count row (flat_map rows xs) ≡ total (map (count row) (map rows xs))
  count_flat row [] = refl
  count_flat row (x ∷ xs) = ap (count row) (flat_map-cons rows x xs) ∙ count_append row (rows x) (flat_map rows xs) ∙ ap (λ n. count row (rows x) + n) (count_flat row xs)

-- ---- one row more of a list

pub shown_next : (list : List (Bor Row)) (i : ℕ) (x : Bor Row) → i < length list → x ≡ get_or list i x → shown (take (i + 1) list) ≡ shown (take i list) ++ x.now ∷ []
shown_next list i x within is = ap shown (take_next list i x within is) ∙ map-append (λ (b : Bor Row). b.now) (take i list) (x ∷ [])

pub count_next : (row : Row) (list : List (Bor Row)) (i : ℕ) (x : Bor Row) → i < length list → x ≡ get_or list i x → count row (shown (take (i + 1) list)) ≡ count row (shown (take i list)) + one row x.now
count_next row list i x within is =
    let put = count_append row (shown (take i list)) (x.now ∷ []) in
    ap (count row) (shown_next list i x within is) ∙ put ∙ omega arith

short_by : (b : Bool) (n m : ℕ) → n ≤ m → cond b 1 0 + n ≤ suc m
short_by true n m less = omega (arith, less)
short_by false n m less = omega (arith, less)

count_short : (row : Row) (rows : List Row) → count row rows ≤ length rows
count_short row [] = omega arith
count_short row (other ∷ rows) = short_by (same_values row other) (count row rows) (length rows) (count_short row rows)

-- fewer than so many rows are counted so far
pub count_below : (row : Row) (list : List (Bor Row)) (i : ℕ) → i < length list → count row (shown (take i list)) < length list
count_below row list i within = omega (arith, count_short row (shown (take i list)), length-map (take i list) (λ (b : Bor Row). b.now), length-take i list)

-- ---- rows that are whole

pub whole_at : (p : Row → Bool) (list : List (Bor Row)) (i : ℕ) (x : Bor Row) → list_all p (shown list) ≡ true → i < length list → x ≡ get_or list i x → p x.now ≡ true
whole_at p [] i x all within is = absurd (omega arith)
whole_at p (b ∷ list) zero x all within is = ap (λ (z : Bor Row). p z.now) is ∙ left_of _ _ all
whole_at p (b ∷ list) (suc i) x all within is = whole_at p list i x (right_of _ _ all) (omega arith) is

-- a row that is counted passes where all rows do, so rows that are counted no oftener pass
contains_by : (p : Row → Bool) (row other : Row) (n : ℕ) (b : Bool) → same_values row other ≡ b → 0 < cond b 1 0 + n → p other ≡ true → (0 < n → p row ≡ true) → p row ≡ true
contains_by p row other n true is some here more = ap p (told row other is) ∙ here
contains_by p row other n false is some here more = more (omega arith)

pub counted_passes : (p : Row → Bool) (row : Row) (rows : List Row) → list_all p rows ≡ true → 0 < count row rows → p row ≡ true
counted_passes p row [] all some = absurd (omega arith)
counted_passes p row (other ∷ rows) all some = contains_by p row other (count row rows) (same_values row other) refl some (left_of _ _ all) (counted_passes p row rows (right_of _ _ all))

pub pass_by_counts : (p : Row → Bool) (rows : List Row) → ((row : Row) → 0 < count row rows → p row ≡ true) → list_all p rows ≡ true
pass_by_counts p [] each = refl
pass_by_counts p (row ∷ rows) each =
    let here : one row row ≡ 1 = one_is row row true (itself row) in
    both (each row (omega (arith, here))) (pass_by_counts p rows (λ other some. each other (omega arith)))

pub fewer_pass : (p : Row → Bool) (rows kept : List Row) → ((row : Row) → count row kept ≤ count row rows) → list_all p rows ≡ true → list_all p kept ≡ true
fewer_pass p rows kept fewer all = pass_by_counts p kept (λ row some. counted_passes p row rows all (omega (arith, fewer row)))

-- ---- each row once

counted_at : (row : Row) (rows : List Row) (n : ℕ) → n < length rows → same_values row (get_or rows n row) ≡ true → 0 < count row rows
counted_at row [] n within same = absurd (omega arith)
counted_at row (other ∷ rows) zero within same =
    let here : one row other ≡ 1 = one_is row other true same in
    omega (arith, here)
counted_at row (other ∷ rows) (suc n) within same = omega (arith, counted_at row rows n (omega arith) same)

counted_none : (row : Row) (rows : List Row) → Each (λ other. other ≡ row → ⊥) rows → count row rows ≡ 0
counted_none row [] none = refl
counted_none row (other ∷ rows) none =
    let here : one row other ≡ 0 = differs_by row other (same_values row other) refl (λ same. none.0 (sym same)) in
    omega (arith, here, counted_none row rows none.1)

some_at_most : (n : ℕ) → 0 < n → at_most_one n ≡ 1
some_at_most zero some = absurd (omega arith)
some_at_most (suc n) some = refl

one_of : (n : ℕ) → 0 < at_most_one n → 0 < n
one_of zero some = some
one_of (suc n) some = omega arith

none_of : (n : ℕ) → at_most_one n ≡ 0 → n ≡ 0
none_of zero none = refl
none_of (suc n) none = absurd (omega (arith, none))

-- a row that was counted already changes nothing
again_by : (b : Bool) (k n c : ℕ) → k ≡ cond b 1 0 → n ≡ at_most_one c → (b ≡ true → 0 < n) → n ≡ at_most_one (c + k)
again_by true k n c is once some =
    let more : 0 < c = one_of c (omega (arith, once, some refl)) in
    once ∙ some_at_most c more ∙ sym (some_at_most (c + k) (omega (arith, more)))
again_by false k n c is once some = once ∙ ap at_most_one (omega (arith, is))

-- and one that wasn't is counted once
fresh_by : (b : Bool) (k n c : ℕ) → k ≡ cond b 1 0 → n ≡ at_most_one c → (b ≡ true → n ≡ 0) → n + k ≡ at_most_one (c + k)
fresh_by true k n c is once none =
    let before : c ≡ 0 = none_of c (sym once ∙ none refl) in
    let short : n + k ≡ 1 = omega (arith, is, none refl) in
    short ∙ sym (some_at_most (c + k) (omega (arith, is)))
fresh_by false k n c is once none =
    let less : n + k ≡ n = omega (arith, is) in
    less ∙ once ∙ ap at_most_one (omega (arith, is))

once_by : (keys after : List Row) (key row : Row) (c : ℕ) (o : Option ℕ) → number_of keys key ≡ o → after ≡ with_key keys key → count row keys ≡ at_most_one c → count row after ≡ at_most_one (c + one row key)
once_by keys after key row c (Some n) here after_is once =
    let at = position-Some (same_values key) keys n key here in
    ap (count row) (after_is ∙ with_key-known keys key n here)
    ∙ again_by (same_values row key) (one row key) (count row keys) c refl once (λ same. counted_at row keys n at.0 (ap (λ (z : Row). same_values z (get_or keys n z)) (told row key same) ∙ at.1))
once_by keys after key row c None here after_is once =
    let put = count_append row keys (key ∷ []) in
    ap (count row) (after_is ∙ with_key-new keys key here) ∙ put ∙ ap (λ n. count row keys + n) (omega arith)
    ∙ fresh_by (same_values row key) (one row key) (count row keys) c refl once (λ same. ap (λ (z : Row). count z keys) (told row key same) ∙ counted_none key keys (none_same keys key here))

pub once_more : (keys after : List Row) (key row : Row) (c : ℕ) → after ≡ with_key keys key → count row keys ≡ at_most_one c → count row after ≡ at_most_one (c + one row key)
once_more keys after key row c after_is once = once_by keys after key row c (number_of keys key) refl after_is once

pub at_most : (n : ℕ) → at_most_one n ≤ n
at_most zero = omega arith
at_most (suc n) = omega arith

-- the rows that are kept are the keys: a key that is new has the number behind the last
keep_by : (keys after kept put : List Row) (key : Row) (n : ℕ) (o : Option ℕ) → number_of keys key ≡ o → kept ≡ keys → after ≡ with_key keys key → number_of after key ≡ Some n → (n ≡ length kept → put ≡ kept ++ key ∷ []) → ((n ≡ length kept → ⊥) → put ≡ kept) → put ≡ after
keep_by keys after kept put key n (Some m) here kept_is after_is number new known =
    let same : after ≡ keys = after_is ∙ with_key-known keys key m here in
    let own : number_of keys key ≡ Some n = ap (λ (z : List Row). number_of z key) (sym same) ∙ number in
    known (λ e. omega (arith, e, ap length kept_is, number_within keys key n own)) ∙ kept_is ∙ sym same
keep_by keys after kept put key n None here kept_is after_is number new known =
    let same : after ≡ keys ++ key ∷ [] = after_is ∙ with_key-new keys key here in
    let own : n ≡ length keys = new_number keys key n here (ap (λ (z : List Row). number_of z key) (sym same) ∙ number) in
    new (own ∙ sym (ap length kept_is)) ∙ ap (λ (z : List Row). z ++ key ∷ []) kept_is ∙ sym same

pub keep_new : (keys after kept put : List Row) (key : Row) (n : ℕ) → kept ≡ keys → after ≡ with_key keys key → number_of after key ≡ Some n → n ≡ length kept → put ≡ kept ++ key ∷ [] → put ≡ after
keep_new keys after kept put key n kept_is after_is number last put_is = keep_by keys after kept put key n (number_of keys key) refl kept_is after_is number (λ same. put_is) (λ not_last. absurd (not_last last))

pub keep_known : (keys after kept put : List Row) (key : Row) (n : ℕ) → kept ≡ keys → after ≡ with_key keys key → number_of after key ≡ Some n → (n ≡ length kept → ⊥) → put ≡ kept → put ≡ after
keep_known keys after kept put key n kept_is after_is number not_last put_is = keep_by keys after kept put key n (number_of keys key) refl kept_is after_is number (λ last. absurd (not_last last)) (λ differs. put_is)
