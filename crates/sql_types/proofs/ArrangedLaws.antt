-- A list that std's sort has put in order is arranged.
use Rattle.std.proofs.Common.{◌≡◌, ℕ, zero, suc, ◌<◌, Bool, true, false, List, [], ◌∷◌, length, get_or, set, refl, ap, sym, ◌∙◌, subst, arith}
use Rattle.std.specs.List.{swap, list_all}
use Rattle.std.specs.List.Sorted.{IsPermutation, IsSortedBy, SwapsInRange, apply_swaps}
use Rattle.std.specs.Ordering.{is_lt}
use Rattle.std.proofs.lemmas.Bool.{false≢true}
use Rattle.std.proofs.lemmas.List.Sorted.{sorted_far}
use Rattle.sql_types.specs.declared.kinds.SortItem.{SortItem}
use Rattle.sql_types.specs.declared.sql_type.Named.{Named}
use Rattle.sql_types.specs.declared.sql_type.SqlType.{SqlType}
use Rattle.sql_types.specs.declared.value.Value.{Value}
use Rattle.sql_types.specs.Arranged.{Permutes, permutes_none, permutes_skip, permutes_swap, permutes_then, Arranged}
use Rattle.sql_types.specs.Fits.{fits_row}
use Rattle.sql_types.specs.Sorting.{whole_rows_order, orders_columns}
use Rattle.sql_types.proofs.Orders.{permutes_refl}
use Rattle.sql_types.proofs.OrderLaws.{whole_rows_ranks, whole_rows_same}
use Rattle.sql_types.proofs.TestParts.{first, second}

-- ---- exchanges make a permutation

pub permutes_length : {A : Type 0} {xs ys : List A} → Permutes xs ys → length xs ≡ length ys
permutes_length permutes_none = refl
permutes_length (permutes_skip more) = ap suc (permutes_length more)
permutes_length permutes_swap = refl
permutes_length (permutes_then one more) = permutes_length one ∙ permutes_length more

-- x goes to the j-th place, whose element comes to the front
to_place : {A : Type 0} (x : A) (xs : List A) (j : ℕ) (d : A) → j < length xs → Permutes (x ∷ xs) (get_or xs j d ∷ set xs j x)
to_place x [] j d within = absurd (omega arith)
to_place x (z ∷ zs) zero d within = permutes_swap
to_place x (z ∷ zs) (suc k) d within = permutes_then permutes_swap (permutes_then (permutes_skip (to_place x zs k d (omega arith))) permutes_swap)

exchanged : {A : Type 0} (xs : List A) (i j : ℕ) (d : A) → i < length xs → j < length xs → Permutes xs (set (set xs i (get_or xs j d)) j (get_or xs i d))
exchanged [] i j d low high = absurd (omega arith)
exchanged (x ∷ xs) zero zero d low high = permutes_refl (x ∷ xs)
exchanged (x ∷ xs) zero (suc j) d low high = to_place x xs j d (omega arith)
exchanged (x ∷ xs) (suc i) zero d low high = to_place x xs i d (omega arith)
exchanged (x ∷ xs) (suc i) (suc j) d low high = permutes_skip (exchanged xs i j d (omega arith) (omega arith))

swapped : {A : Type 0} (xs : List A) (i j : ℕ) → i < length xs → j < length xs → Permutes xs (swap xs i j)
swapped [] i j low high = absurd (omega arith)
swapped (d ∷ xs) i j low high = exchanged (d ∷ xs) i j d low high

all_swapped : {A : Type 0} (xs : List A) (moves : List (ℕ × ℕ)) → SwapsInRange (length xs) moves → Permutes xs (apply_swaps xs moves)
all_swapped xs [] within = permutes_refl xs
all_swapped xs (p ∷ moves) within =
    let before = all_swapped xs moves within.2 in
    let long = permutes_length before in
    permutes_then before (swapped (apply_swaps xs moves) p.0 p.1 (subst (λ n. p.0 < n) long within.0) (subst (λ n. p.1 < n) long within.1))

pub permutes_from_std : {A : Type 0} (xs ys : List A) → IsPermutation xs ys → Permutes xs ys
permutes_from_std xs ys p = subst (Permutes xs) (sym p.is) (all_swapped xs p.moves p.below)

-- ---- a list in order

all_at : {A : Type 0} (test : A → Bool) (xs : List A) (i : ℕ) (d : A) → list_all test xs ≡ true → i < length xs → test (get_or xs i d) ≡ true
all_at test [] i d all within = absurd (omega arith)
all_at test (x ∷ xs) zero d all within = first _ _ all
all_at test (x ∷ xs) (suc i) d all within = all_at test xs i d (second _ _ all) (omega arith)

-- what a sort by `sorting_order` ensures of rows of one table, by items that go by columns of orderable types
pub arranged_from_sorted : (items : List SortItem) (columns : List (Named SqlType)) (rows list : List (List Value)) →
    IsPermutation rows list → IsSortedBy (λ a b. is_lt (whole_rows_order items a b)) list → list_all (fits_row columns) list ≡ true → orders_columns columns items ≡ true → Arranged items rows list
arranged_from_sorted items columns rows list permutation sorted fit orders = record {
  permutes = permutes_from_std rows list permutation;
  ordered = λ i j before within less.
      let later = get_or list j [] in
      let earlier = get_or list i [] in
      let not_less : is_lt (whole_rows_order items later earlier) ≡ false = sorted_far (λ a b. is_lt (whole_rows_order items a b)) (whole_rows_ranks items) list sorted i j [] (omega arith) within in
      let same = whole_rows_same items columns later earlier (all_at (fits_row columns) list j [] fit within) (all_at (fits_row columns) list i [] fit (omega arith)) orders in
      false≢true (sym not_less ∙ ap is_lt (same ∙ less));
}
