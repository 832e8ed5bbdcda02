-- What a sort by all rows' order says of rows of one table.
use Rattle.std.proofs.Common.{◌≡◌, Bool, true, false, ◌&&◌, List, reverse, subst}
use Rattle.std.specs.List.{list_all}
use Rattle.std.specs.List.Sorted.{IsPermutation, IsSortedBy}
use Rattle.std.specs.Ordering.{is_lt}
use Rattle.std.proofs.lemmas.List.Sorted.{IsPermutation-reverse, IsPermutation-trans}
use Rattle.sql_types.specs.declared.kinds.SortItem.{SortItem}
use Rattle.sql_types.specs.declared.sql_type.Named.{Named}
use Rattle.sql_types.specs.declared.sql_type.SqlType.{SqlType}
use Rattle.sql_types.specs.Arranged.{Arranged, Permutes, permutes_none, permutes_skip, permutes_swap, permutes_then}
use Rattle.sql_types.specs.Fits.{fits_row}
use Rattle.sql_types.specs.Joined.{Row}
use Rattle.sql_types.specs.Sorting.{whole_rows_order, orders_columns}
use Rattle.sql_types.proofs.ArrangedLaws.{permutes_from_std, arranged_from_sorted}
use Rattle.sql_types.proofs.TestParts.{first, second}
use Rattle.eval_rows.proofs.FitLaws.{both}

swap_pass : (a b c : Bool) → (a && (b && c)) ≡ true → (b && (a && c)) ≡ true
swap_pass true b c all = all
swap_pass false true c all = all
swap_pass false false c all = all

-- a permutation of elements that pass passes
permuted_pass : {A : Type 0} (p : A → Bool) {xs ys : List A} → Permutes xs ys → list_all p xs ≡ true → list_all p ys ≡ true
permuted_pass p permutes_none all = all
permuted_pass p (permutes_skip more) all = both (first _ _ all) (permuted_pass p more (second _ _ all))
permuted_pass p (permutes_swap {x = x} {y = y} {xs = xs}) all = swap_pass (p x) (p y) (list_all p xs) all
permuted_pass p (permutes_then one more) all = permuted_pass p more (permuted_pass p one all)

turned : {A : Type 0} (rows moved list : List A) → moved ≡ reverse rows → IsPermutation moved list → IsPermutation rows list
turned {A} rows moved list is permutation = IsPermutation-trans rows (reverse rows) list (IsPermutation-reverse rows) (subst (λ (z : List A). IsPermutation z list) is permutation)

pub sorted_fits : (p : Row → Bool) (rows moved list : List Row) → moved ≡ reverse rows → IsPermutation moved list → list_all p rows ≡ true → list_all p list ≡ true
sorted_fits p rows moved list is permutation all = permuted_pass p (permutes_from_std rows list (turned rows moved list is permutation)) all

pub sorted_arranged : (items : List SortItem) (columns : List (Named SqlType)) (rows moved list : List Row) → moved ≡ reverse rows → IsPermutation moved list → IsSortedBy (λ a b. is_lt (whole_rows_order items a b)) list →
    list_all (fits_row columns) rows ≡ true → orders_columns columns items ≡ true → Arranged items rows list
sorted_arranged items columns rows moved list is permutation sorted all orders =
    arranged_from_sorted items columns rows list (turned rows moved list is permutation) sorted (sorted_fits (fits_row columns) rows moved list is permutation all) orders
