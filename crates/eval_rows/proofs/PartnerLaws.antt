-- How often a row stands among the rows that have a partner, and among those that have none.
use Rattle.std.proofs.Common.{◌≡◌, ℕ, zero, suc, ◌+◌, ◌-◌, ◌<◌, ◌≤◌, Bool, true, false, cond, List, [], ◌∷◌, ◌++◌, length, get_or, set, take, refl, ap, sym, ◌∙◌, arith, None, Some}
use Rattle.std.specs.Bool.{beq}
use Rattle.std.proofs.lemmas.Bool.{false≢true}
use Rattle.std.proofs.lemmas.List.{map-append}
use denote.Ref.{Bor}
use Rattle.sql_types.specs.Joined.{Row}
use Rattle.sql_types.specs.SameValue.{same_values}
use Rattle.key_classes.specs.Classes.{number_of}
use Rattle.eval_rows.specs.ByClass.{value_at, by_class}
use Rattle.eval_rows.specs.Counts.{shown, count, count_partnered}
use Rattle.key_classes.specs.KeyLaws.{told}
use Rattle.key_classes.proofs.ClassLaws.{number_within}
use Rattle.eval_rows.proofs.ByClassLaws.{class_put, OneMore}
use Rattle.eval_rows.proofs.CountLaws.{one, count_next, count_append}

-- ---- one row more is counted

more_by : (b : Bool) (c : ℕ) → cond b (c + 1) c ≡ c + cond b 1 0
more_by true c = refl
more_by false c = omega arith

pub tally_more : (keys after : List Row) (left put : List ℕ) (key : Row) (list : List (Bor Row)) (i : ℕ) (b : Bor Row) → i < length list → b ≡ get_or list i b → key ≡ b.now →
    OneMore 0 (λ c. c + 1) keys left key after put → ((row : Row) → by_class 0 keys left row ≡ count row (shown (take i list))) → (row : Row) → by_class 0 after put row ≡ count row (shown (take (i + 1) list))
tally_more keys after left put key list i b within is whole step each row =
    step.kept row ∙ more_by (same_values row key) (by_class 0 keys left row) ∙ (λ j. each row j + one row (whole j)) ∙ sym (count_next row list i b within is)

-- ---- one row is taken

taken_by : (b : Bool) (x y : ℕ) → (b ≡ true → x ≡ y) → cond b (x - 1) y ≡ y - (cond b 1 0 + 0)
taken_by true x y same = ap (λ n. n - 1) (same refl)
taken_by false x y same = omega arith

pub one_taken : (keys : List Row) (left put : List ℕ) (key : Row) (n : ℕ) → length left ≡ length keys → number_of keys key ≡ Some n → put ≡ set left n (get_or left n 0 - 1) → (row : Row) →
    by_class 0 keys put row ≡ by_class 0 keys left row - count row (key ∷ [])
one_taken keys left put key n long here put_is row =
    ap (λ (z : List ℕ). by_class 0 keys z row) put_is ∙ class_put 0 keys left key row n (get_or left n 0 - 1) here (omega (arith, long, number_within keys key n here))
    ∙ taken_by (same_values row key) (get_or left n 0) (by_class 0 keys left row) (λ same. sym (ap (λ (z : Row). by_class 0 keys left z) (told row key same) ∙ ap (value_at 0 left) here))

nothing_by : (b : Bool) (n : ℕ) → (b ≡ true → n ≡ 0) → n ≡ n - (cond b 1 0 + 0)
nothing_by true n none = omega (arith, none refl)
nothing_by false n none = omega arith

pub none_taken : (keys : List Row) (left : List ℕ) (key : Row) → number_of keys key ≡ None → (row : Row) → by_class 0 keys left row ≡ by_class 0 keys left row - count row (key ∷ [])
none_taken keys left key here row =
    nothing_by (same_values row key) (by_class 0 keys left row) (λ same. ap (λ (z : Row). by_class 0 keys left z) (told row key same) ∙ ap (value_at 0 left) here)

-- ---- one row more finds a partner or doesn't

-- a row of which so many were gone through, beside so many partners
kept_by : (wanted found same : Bool) (c m k : ℕ) → k ≡ cond same 1 0 → beq found wanted ≡ true → (same ≡ true → found ≡ true → c < m) → (same ≡ true → found ≡ false → m ≤ c) → count_partnered wanted c m + k ≡ count_partnered wanted (c + k) m
kept_by wanted found false c m k is agree some none =
    let here : k ≡ 0 = is in
    let none_more : count_partnered wanted c m + k ≡ count_partnered wanted c m = omega (arith, here) in
    none_more ∙ ap (λ n. count_partnered wanted n m) (omega (arith, here))
kept_by true true true c m k is agree some none = omega (arith, is, some refl refl)
kept_by false false true c m k is agree some none = omega (arith, is, none refl refl)
kept_by true false true c m k is agree some none = absurd (false≢true agree)
kept_by false true true c m k is agree some none = absurd (false≢true agree)

left_out_by : (wanted found same : Bool) (c m k : ℕ) → k ≡ cond same 1 0 → beq found wanted ≡ false → (same ≡ true → found ≡ true → c < m) → (same ≡ true → found ≡ false → m ≤ c) → count_partnered wanted c m ≡ count_partnered wanted (c + k) m
left_out_by wanted found false c m k is agree some none =
    let here : k ≡ 0 = is in
    ap (λ n. count_partnered wanted n m) (omega (arith, here))
left_out_by true false true c m k is agree some none = omega (arith, is, none refl refl)
left_out_by false true true c m k is agree some none = omega (arith, is, some refl refl)
left_out_by true true true c m k is agree some none = absurd (false≢true (sym agree))
left_out_by false false true c m k is agree some none = absurd (false≢true (sym agree))

module _ (wanted found : Bool) (list : List (Bor Row)) (others : List Row) (i : ℕ) (b : Bor Row) (left : Row → ℕ) where
  -- what was found, by what was left of the row
  found_some : (row : Row) → ((x : Row) → left x ≡ count x others - count x (shown (take i list))) → (found ≡ true → 0 < left b.now) → same_values row b.now ≡ true → found ≡ true → count row (shown (take i list)) < count row others
  found_some row each some same is =
      let here : 0 < count b.now others - count b.now (shown (take i list)) = omega (arith, some is, each b.now) in
      let less : count b.now (shown (take i list)) < count b.now others = omega (arith, here) in
      omega (arith, less, ap (λ (z : Row). count z others) (told row b.now same), ap (λ (z : Row). count z (shown (take i list))) (told row b.now same))

  found_none : (row : Row) → ((x : Row) → left x ≡ count x others - count x (shown (take i list))) → (found ≡ false → left b.now ≡ 0) → same_values row b.now ≡ true → found ≡ false → count row others ≤ count row (shown (take i list))
  found_none row each none same is =
      let here : count b.now others - count b.now (shown (take i list)) ≡ 0 = sym (each b.now) ∙ none is in
      let less : count b.now others ≤ count b.now (shown (take i list)) = omega (arith, here) in
      omega (arith, less, ap (λ (z : Row). count z others) (told row b.now same), ap (λ (z : Row). count z (shown (take i list))) (told row b.now same))

  pub kept_more : (kept put : List (Bor Row)) → i < length list → b ≡ get_or list i b → ((x : Row) → left x ≡ count x others - count x (shown (take i list))) → (found ≡ true → 0 < left b.now) → (found ≡ false → left b.now ≡ 0) → beq found wanted ≡ true →
      put ≡ kept ++ b ∷ [] → ((x : Row) → count x (shown kept) ≡ count_partnered wanted (count x (shown (take i list))) (count x others)) →
      (row : Row) → count row (shown put) ≡ count_partnered wanted (count row (shown (take (i + 1) list))) (count row others)
  kept_more kept put within is each some none agree put_is so_far row =
      let shown_is : shown put ≡ shown kept ++ b.now ∷ [] = ap shown put_is ∙ map-append (λ (z : Bor Row). z.now) kept (b ∷ []) in
      let long = count_append row (shown kept) (b.now ∷ []) in
      let here : count row (shown put) ≡ count row (shown kept) + one row b.now = ap (count row) shown_is ∙ long ∙ omega arith in
      here ∙ ap (λ n. n + one row b.now) (so_far row)
      ∙ kept_by wanted found (same_values row b.now) (count row (shown (take i list))) (count row others) (one row b.now) refl agree (found_some row each some) (found_none row each none)
      ∙ ap (λ n. count_partnered wanted n (count row others)) (sym (count_next row list i b within is))

  pub left_out_more : (kept put : List (Bor Row)) → i < length list → b ≡ get_or list i b → ((x : Row) → left x ≡ count x others - count x (shown (take i list))) → (found ≡ true → 0 < left b.now) → (found ≡ false → left b.now ≡ 0) → beq found wanted ≡ false →
      put ≡ kept → ((x : Row) → count x (shown kept) ≡ count_partnered wanted (count x (shown (take i list))) (count x others)) →
      (row : Row) → count row (shown put) ≡ count_partnered wanted (count row (shown (take (i + 1) list))) (count row others)
  left_out_more kept put within is each some none agree put_is so_far row =
      ap (λ (z : List (Bor Row)). count row (shown z)) put_is ∙ so_far row
      ∙ left_out_by wanted found (same_values row b.now) (count row (shown (take i list))) (count row others) (one row b.now) refl agree (found_some row each some) (found_none row each none)
      ∙ ap (λ n. count_partnered wanted n (count row others)) (sym (count_next row list i b within is))

pub none_left : (n : ℕ) (found : Bool) → (0 < n → found ≡ true) → found ≡ false → n ≡ 0
none_left zero found some is = refl
none_left (suc n) found some is = absurd (false≢true (sym is ∙ some (omega arith)))

-- what is left after one row more
pub less_left : (list : List (Bor Row)) (others : List Row) (i : ℕ) (b : Bor Row) (row : Row) (n m : ℕ) → i < length list → b ≡ get_or list i b → n ≡ count row others - count row (shown (take i list)) → m ≡ n - count row (b.now ∷ []) →
    m ≡ count row others - count row (shown (take (i + 1) list))
less_left list others i b row n m within is before after = omega (arith, before, after, count_next row list i b within is)

-- none of the rows that are kept stands oftener than in the list
pub partnered_fewer : (wanted : Bool) (n m k : ℕ) → k ≡ count_partnered wanted n m → k ≤ n
partnered_fewer true n m k is = omega (arith, is)
partnered_fewer false n m k is = omega (arith, is)
