-- What is left of the lists that were added.
use Rattle.std.proofs.Common.{◌≡◌, ℕ, zero, suc, Bool, true, false, not, cond, List, [], ◌∷◌, take, refl, ap, sym, ◌∙◌, subst, arith, Option, None, Some}
use Rattle.std.specs.List.{filter, dedup, Contains, Any, AllByRecursion, list_all}
use Rattle.std.specs.List.Sorted.{IsPermutation, IsSortedBy, IsStrictlySortedBy}
use Rattle.std.specs.Ordering.{is_lt, is_eq}
use Rattle.std.specs.declared.cmp.Ordering.{Ordering}
use Rattle.std.specs.declared.cmp.Ordering.TheVariants.{Less, Equal, Greater}
use Rattle.std.proofs.lemmas.Cmp.{eq_by_cmp_equiv}
use Rattle.std.proofs.lemmas.List.Kept.{IsStrictlySortedBy-dedup, Any-dedup, Contains-from_dedup}
use Rattle.std.proofs.lemmas.List.Sorted.{Contains-permutation, IsPermutation-sym}
use Rattle.sql_types.specs.declared.value.Value.{Value}
use Rattle.sql_types.specs.declared.kinds.SortItem.{SortItem}
use Rattle.sql_types.specs.Fits.{fits_row}
use Rattle.sql_types.specs.Sorting.{whole_rows_order}
use Rattle.sql_types.proofs.ArrangedLaws.{arranged_from_sorted}
use Rattle.sql_types.proofs.TestParts.{first as left_of, second as right_of}
use Rattle.sql_types.specs.Arranged.{Arranged, Permutes, permutes_none, permutes_skip, permutes_swap, permutes_then}
use Rattle.sql_aggregates.specs.Identity.{first_order}
use Rattle.sql_aggregates.specs.Lists.{first, skips, null_argument, without_nulls, kept, NoneLike, AllApart, OneOfEach, Chosen, limited, GoesOver}
use Rattle.sql_aggregates.specs.Sortable.{Sortable}
use Rattle.sql_aggregates.specs.declared.call.AggCall.{AggCall}
use Rattle.sql_aggregates.proofs.IdentityLaws.{first_total, identity_tells, identity_itself}

-- ---- NULLs

one_more : (b : Bool) (list : List Value) (lists others : List (List Value)) → lists ≡ others → cond (not b) (list ∷ lists) lists ≡ elim b [ true ↦ others | false ↦ list ∷ others ]
one_more true list lists others same = same
one_more false list lists others same = ap (λ rest. list ∷ rest) same

pub nulls_left_out : (lists : List (List Value)) → filter (λ list. not (null_argument list)) lists ≡ without_nulls lists
nulls_left_out [] = refl
nulls_left_out (list ∷ lists) = one_more (null_argument list) list _ _ (nulls_left_out lists)

-- ---- DISTINCT

abbrev pub same_first : List Value → List Value → Bool
same_first a b = is_eq (first_order a b)

less_apart : (a b : List Value) → first_order a b ≡ Less → first a ≡ first b → ⊥
less_apart a b less same = cc (identity_itself (first b))

at_equal : (o : Ordering) → is_eq o ≡ true → o ≡ Equal
at_equal Less e = cc
at_equal Equal e = refl
at_equal Greater e = cc

none_like : (list : List Value) (lists : List (List Value)) → AllByRecursion (λ other. first_order list other ≡ Less) lists → NoneLike list lists
none_like list [] all = tt
none_like list (other ∷ others) all = (less_apart list other all.0, none_like list others all.1)

all_apart : (lists : List (List Value)) → IsStrictlySortedBy first_order lists → AllApart lists
unfolding IsStrictlySortedBy
all_apart [] sorted = tt
all_apart (list ∷ lists) sorted = (none_like list lists sorted.0, all_apart lists sorted.1)

told : (some : List (List Value)) (list : List Value) → Any (λ other. same_first list other ≡ true) some → (other : List Value) × Contains some other × (first list ≡ first other)
told some list (k, other, within, at, same) = (other, (k, within, at), identity_tells (first list) (first other) (at_equal _ same))

pub one_of_each : (lists sorted some : List (List Value)) → IsPermutation lists sorted → IsSortedBy (λ a b. is_lt (first_order a b)) sorted → some ≡ dedup same_first sorted → OneOfEach lists some
one_of_each lists sorted some permutation order is =
    subst (OneOfEach lists) (sym is)
    (record {
      among = λ list in_some. Contains-permutation _ _ list (IsPermutation-sym _ _ permutation) (Contains-from_dedup same_first sorted list in_some);
      apart = all_apart _ (IsStrictlySortedBy-dedup first_total (λ a b. refl) sorted order);
      complete = λ list in_lists. told _ list (Any-dedup (eq_by_cmp_equiv first_total) sorted list (Contains-permutation _ _ list permutation in_lists));
    })

-- ---- ORDER BY

all_of_each : {A : Type 0} (test : A → Bool) (xs : List A) → ((x : A) → Contains xs x → test x ≡ true) → list_all test xs ≡ true
all_of_each test [] each = refl
all_of_each test (x ∷ xs) each =
    let here : test x ≡ true = each x (0, omega arith, refl) in
    let more : list_all test xs ≡ true = all_of_each test xs (λ y c. each y (suc c.0, omega (arith, c.1), c.2)) in
    rw (here, more) refl

each_of_all : {A : Type 0} (test : A → Bool) (xs : List A) → list_all test xs ≡ true → (x : A) → Contains xs x → test x ≡ true
each_of_all test [] all x (k, within, at) = absurd (omega arith)
each_of_all test (y ∷ ys) all x (zero, within, at) = ap test (sym at) ∙ left_of _ _ all
each_of_all test (y ∷ ys) all x (suc k, within, at) = each_of_all test ys (right_of _ _ all) x (k, omega arith, at)

pub arranged_by : (items : List SortItem) (lists ordered : List (List Value)) → Sortable items lists → IsPermutation lists ordered → IsSortedBy (λ a b. is_lt (whole_rows_order items a b)) ordered → Arranged items lists ordered
arranged_by items lists ordered sortable permutation sorted =
    arranged_from_sorted items sortable.columns lists ordered permutation sorted
    (all_of_each (fits_row sortable.columns) ordered (λ x c. each_of_all (fits_row sortable.columns) lists sortable.fit x (Contains-permutation _ _ x (IsPermutation-sym _ _ permutation) c)))
    sortable.orders

-- ---- what is left was there

there : {A : Type 0} (x y : A) (xs : List A) → Contains xs y → Contains (x ∷ xs) y
there x y xs (k, within, at) = (suc k, omega arith, at)

under : {A : Type 0} (x y : A) (xs ys : List A) → (Contains ys y → Contains xs y) → Contains (x ∷ ys) y → Contains (x ∷ xs) y
under x y xs ys more (zero, within, at) = (zero, omega arith, at)
under x y xs ys more (suc k, within, at) = there x y xs (more (k, omega arith, at))

turned : {A : Type 0} (x y z : A) (xs : List A) → Contains (y ∷ x ∷ xs) z → Contains (x ∷ y ∷ xs) z
turned x y z xs (zero, within, at) = (1, omega arith, at)
turned x y z xs (suc zero, within, at) = (0, omega arith, at)
turned x y z xs (suc (suc k), within, at) = (suc (suc k), omega arith, at)

pub in_permuted : {A : Type 0} {xs ys : List A} (y : A) → Permutes xs ys → Contains ys y → Contains xs y
in_permuted y permutes_none c = c
in_permuted y (permutes_skip more) c = under _ y _ _ (in_permuted y more) c
in_permuted y permutes_swap c = turned _ _ y _ c
in_permuted y (permutes_then one more) c = in_permuted y one (in_permuted y more c)

among_one_more : (b : Bool) (list : List Value) (lists others : List (List Value)) (x : List Value) → (Contains others x → Contains lists x) → Contains (elim b [ true ↦ others | false ↦ list ∷ others ]) x → Contains (list ∷ lists) x
among_one_more true list lists others x more c = there list x lists (more c)
among_one_more false list lists others x more c = under list x lists others more c

in_without_nulls : (lists : List (List Value)) (x : List Value) → Contains (without_nulls lists) x → Contains lists x
in_without_nulls [] x c = c
in_without_nulls (list ∷ lists) x c = among_one_more (null_argument list) list lists (without_nulls lists) x (in_without_nulls lists x) c

pub in_kept : (skips : Bool) (lists : List (List Value)) (x : List Value) → Contains (kept skips lists) x → Contains lists x
in_kept true lists x c = in_without_nulls lists x c
in_kept false lists x c = c

pub in_chosen : (distinct : Bool) (lists some : List (List Value)) (x : List Value) → Chosen distinct lists some → Contains some x → Contains lists x
in_chosen true lists some x chosen c = chosen.among x c
in_chosen false lists some x chosen c = subst (λ all. Contains all x) chosen c

in_taken : (n : ℕ) (lists : List (List Value)) (x : List Value) → Contains (take n lists) x → Contains lists x
in_taken zero lists x (k, within, at) = absurd (omega arith)
in_taken (suc n) [] x c = c
in_taken (suc n) (list ∷ lists) x c = under list x lists (take n lists) (in_taken n lists x) c

in_limited : (limit : Option ℕ) (lists : List (List Value)) (x : List Value) → Contains (limited limit lists) x → Contains lists x
in_limited None lists x c = c
in_limited (Some count) lists x c = in_taken count lists x c

-- each list that a call goes over was added
pub gone_over : (call : AggCall) (lists list : List (List Value)) → GoesOver call lists list → (x : List Value) → Contains list x → Contains lists x
gone_over call lists list over x c =
    in_kept (skips call.name call.ignore_nulls) lists x
    (in_chosen call.distinct (kept (skips call.name call.ignore_nulls) lists) over.some x over.chosen
    (in_permuted x over.arranged.permutes (in_limited call.limit over.ordered x (subst (λ all. Contains all x) over.is c))))
