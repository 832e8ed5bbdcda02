-- The order of values and of rows is a total order where it orders all values, and on rows of one table it is ORDER BY's.
use Rattle.std.proofs.Common.{◌≡◌, ℕ, zero, suc, ℤ, pos, Bool, true, false, List, [], ◌∷◌, refl, ap, sym, ◌∙◌, subst, arith, slice_index_or}
use Rattle.std.specs.Cmp.{IsTotalOrder, IsStrictWeakOrder}
use Rattle.std.specs.Cmp.Lexicographic.{slice_cmp}
use Rattle.std.specs.Ordering.{nat_cmp, int_cmp, ordering_then, ordering_reverse, then_cmp, flip_args, on, is_lt}
use Rattle.std.specs.declared.cmp.Ordering.{Ordering}
use Rattle.std.specs.declared.cmp.Ordering.TheVariants.{Less, Equal, Greater}
use Rattle.std.proofs.lemmas.Bool.{false≢true}
use Rattle.std.proofs.lemmas.Bool.Decides.{nat_tests}
use Rattle.std.proofs.lemmas.Int.{ints}
use Rattle.std.proofs.lemmas.Cmp.{nat_cmp_total, int_cmp_total, nat_list_cmp_total, on_total, then_total, back_total, tied_itself}
use Rattle.std.proofs.lemmas.List.MinMax.{ranks_by}
use Rattle.sql_types.specs.declared.kinds.SortItem.{SortItem}
use Rattle.sql_types.specs.declared.sql_type.Named.{Named}
use Rattle.sql_types.specs.declared.sql_type.SqlType.{SqlType, out-SqlType}
use Rattle.sql_types.specs.declared.sql_type.SqlType.TheOpen as t
use Rattle.sql_types.specs.declared.value.Value.{Value, out-Value}
use Rattle.sql_types.specs.declared.value.Value.TheVariants.{Null, outs-Null}
use Rattle.sql_types.specs.declared.value.Value.TheOpen as v
use Rattle.sql_types.specs.Before.{value_order, order, flipped, directed, null_order, is_null, placed, item_order, row_order, then_by, rows_order}
use Rattle.sql_types.specs.Fits.{fits, fits_row}
use Rattle.sql_types.specs.Comparable.{orderable, orderable_layer}
use Rattle.sql_types.proofs.ValueOpens.{fits_opens, fits_at}
use Rattle.sql_types.proofs.TestParts.{first, second}
use Rattle.sql_types.specs.Sorting.{kind, whole_value_order, whole_order, whole_item_order, whole_row_order, whole_rows_order, orders_column, orders_columns}

-- ---- an order by another name

renamed : {K : Type 0} (R S : K → K → Ordering) → ((x y : K) → R x y ≡ S x y) → IsTotalOrder S → IsTotalOrder R
renamed R S same total = subst IsTotalOrder (λ i x y. sym (same x y) i) total

then_equal : (o : Ordering) → o ≡ ordering_then o Equal
then_equal Less = refl
then_equal Equal = refl
then_equal Greater = refl

then_same : (o p : Ordering) → then_by o p ≡ ordering_then o p
then_same Less p = refl
then_same Equal p = refl
then_same Greater p = refl

flipped_same : (o : Ordering) → flipped o ≡ ordering_reverse o
flipped_same Less = refl
flipped_same Equal = refl
flipped_same Greater = refl

-- ---- values: by their kind, then by a number, then by bytes

size : v.Value-F Value → ℤ
size (v.Bool true) = pos 1
size (v.Bool false) = pos 0
size (v.Int n) = n
size (v.Uint n) = pos n
size (v.Date day) = day
size _ = pos 0

bytes : v.Value-F Value → List ℕ
bytes (v.Text b) = b
bytes (v.Bytes b) = b
bytes _ = []

abbrev by_keys : v.Value-F Value → v.Value-F Value → Ordering
by_keys = then_cmp (on kind nat_cmp) (then_cmp (on size int_cmp) (on bytes (slice_cmp nat_cmp)))

by_keys_total : IsTotalOrder by_keys
by_keys_total = then_total (on_total kind nat_cmp_total) (then_total (on_total size int_cmp_total) (on_total bytes nat_list_cmp_total))

unsigned : (a b : ℕ) → nat_cmp a b ≡ int_cmp (pos a) (pos b)
unsigned a b = grind (arith, nat_tests, ints)

keys_order : (x y : v.Value-F Value) → whole_value_order x y ≡ by_keys x y
unfolding size bytes
keys_order (v.Bool true) (v.Bool true) = refl
keys_order (v.Bool true) (v.Bool false) = refl
keys_order (v.Bool false) (v.Bool true) = refl
keys_order (v.Bool false) (v.Bool false) = refl
keys_order (v.Int a) (v.Int b) = then_equal (int_cmp a b)
keys_order (v.Uint a) (v.Uint b) = unsigned a b ∙ then_equal (int_cmp (pos a) (pos b))
keys_order (v.Date a) (v.Date b) = then_equal (int_cmp a b)
keys_order (v.Text a) (v.Text b) = refl
keys_order (v.Bytes a) (v.Bytes b) = refl
keys_order (v.Array xs) (v.Array ys) = refl
keys_order (v.Struct xs) (v.Struct ys) = refl
keys_order v.Null v.Null = refl
keys_order _ _ = refl

pub whole_value_total : IsTotalOrder whole_value_order
whole_value_total = renamed whole_value_order by_keys keys_order by_keys_total

-- ---- values by an item

directed_total : {K : Type 0} (R : K → K → Ordering) (descending : Bool) → IsTotalOrder R → IsTotalOrder (λ x y. directed descending (R x y))
directed_total R false total = total
directed_total R true total = renamed (λ x y. flipped (R x y)) (flip_args R) (λ x y. flipped_same (R x y) ∙ sym (total.antisymm y x)) (back_total total)

-- where NULL stands among the others
rank : Bool → Bool → ℕ
rank true true = 0
rank true false = 1
rank false true = 1
rank false false = 0

directed_equal : (descending : Bool) → directed descending Equal ≡ Equal
directed_equal true = refl
directed_equal false = refl

-- the place of NULL and the direction, by the ranks; of two NULLs neither comes first
ranked : (place : ℕ) (descending nulls_first n m : Bool) (o : Ordering) → (n ≡ true → m ≡ true → o ≡ Equal) →
    placed (record { place = place; descending = descending; nulls_first = nulls_first }) n m o ≡ ordering_then (nat_cmp (rank nulls_first n) (rank nulls_first m)) (directed descending o)
unfolding rank
ranked place descending true true true o both = sym (ap (directed descending) (both refl refl) ∙ directed_equal descending)
ranked place descending false true true o both = sym (ap (directed descending) (both refl refl) ∙ directed_equal descending)
ranked place descending true true false o both = refl
ranked place descending false true false o both = refl
ranked place descending true false true o both = refl
ranked place descending false false true o both = refl
ranked place descending true false false o both = refl
ranked place descending false false false o both = refl

nulls_tie : (x y : v.Value-F Value) → is_null x ≡ true → is_null y ≡ true → whole_value_order x y ≡ Equal
nulls_tie v.Null v.Null e f = refl
nulls_tie v.Null _ e f = absurd (false≢true f)
nulls_tie _ _ e f = absurd (false≢true e)

abbrev by_rank : SortItem → v.Value-F Value → v.Value-F Value → Ordering
by_rank item = then_cmp (on (λ x. rank item.nulls_first (is_null x)) nat_cmp) (λ x y. directed item.descending (whole_value_order x y))

by_rank_total : (item : SortItem) → IsTotalOrder (by_rank item)
by_rank_total item = then_total (on_total (λ x. rank item.nulls_first (is_null x)) nat_cmp_total) (directed_total whole_value_order item.descending whole_value_total)

item_total : (item : SortItem) → IsTotalOrder (whole_item_order item)
item_total item =
    on_total out-Value (renamed (λ x y. placed item (is_null x) (is_null y) (whole_value_order x y)) (by_rank item)
    (λ x y. ranked item.place item.descending item.nulls_first (is_null x) (is_null y) (whole_value_order x y) (nulls_tie x y)) (by_rank_total item))

-- ---- rows

row_total : (item : SortItem) → IsTotalOrder (whole_row_order item)
row_total item = on_total (λ (row : List Value). slice_index_or row item.place Null) (item_total item)

pub whole_rows_total : (items : List SortItem) → IsTotalOrder (whole_rows_order items)
whole_rows_total [] = record { antisymm = λ x y. refl; trans = λ x y z e f. e; congr = λ x y z e. refl }
whole_rows_total (item ∷ items) =
    renamed (whole_rows_order (item ∷ items)) (then_cmp (whole_row_order item) (whole_rows_order items)) (λ a b. then_same (whole_row_order item a b) (whole_rows_order items a b))
    (then_total (row_total item) (whole_rows_total items))

-- so std's sort sorts by it
pub whole_rows_ranks : (items : List SortItem) → IsStrictWeakOrder (λ a b. is_lt (whole_rows_order items a b))
whole_rows_ranks items = ranks_by (whole_rows_total items) (λ row. row)

-- ---- the order of ORDER BY

value_turned : (x y : v.Value-F Value) → value_order x y ≡ flipped (value_order y x)
value_turned (v.Bool true) (v.Bool true) = refl
value_turned (v.Bool true) (v.Bool false) = refl
value_turned (v.Bool false) (v.Bool true) = refl
value_turned (v.Bool false) (v.Bool false) = refl
value_turned (v.Int a) (v.Int b) = int_cmp_total.antisymm a b ∙ sym (flipped_same (int_cmp b a))
value_turned (v.Uint a) (v.Uint b) = nat_cmp_total.antisymm a b ∙ sym (flipped_same (nat_cmp b a))
value_turned (v.Text a) (v.Text b) = nat_list_cmp_total.antisymm a b ∙ sym (flipped_same (slice_cmp nat_cmp b a))
value_turned (v.Bytes a) (v.Bytes b) = nat_list_cmp_total.antisymm a b ∙ sym (flipped_same (slice_cmp nat_cmp b a))
value_turned (v.Date a) (v.Date b) = int_cmp_total.antisymm a b ∙ sym (flipped_same (int_cmp b a))
value_turned v.Null v.Null = refl
value_turned (v.Array xs) (v.Array ys) = refl
value_turned (v.Struct xs) (v.Struct ys) = refl
value_turned _ _ = refl

-- the other way round the order is the other one
pub order_turned : (x y : Value) → order x y ≡ flipped (order y x)
order_turned x y = value_turned (out-Value x) (out-Value y)

twice : (o : Ordering) → flipped (flipped o) ≡ o
twice Less = refl
twice Equal = refl
twice Greater = refl

directed_turned : (descending : Bool) (o : Ordering) → directed descending (flipped o) ≡ flipped (directed descending o)
directed_turned true o = refl
directed_turned false o = refl

placed_turned : (item : SortItem) (n m : Bool) (o p : Ordering) → o ≡ flipped p → placed item n m o ≡ flipped (placed item m n p)
placed_turned item true true o p e = refl
placed_turned item true false o p e = sym (twice (null_order item.nulls_first))
placed_turned item false true o p e = refl
placed_turned item false false o p e = ap (directed item.descending) e ∙ directed_turned item.descending p

pub item_turned : (item : SortItem) (x y : Value) → item_order item x y ≡ flipped (item_order item y x)
item_turned item x y = placed_turned item (is_null (out-Value x)) (is_null (out-Value y)) (order x y) (order y x) (order_turned x y)

then_turned : (o p : Ordering) → then_by (flipped o) (flipped p) ≡ flipped (then_by o p)
then_turned Less p = refl
then_turned Equal p = refl
then_turned Greater p = refl

pub rows_turned : (items : List SortItem) (a b : List Value) → rows_order items a b ≡ flipped (rows_order items b a)
rows_turned [] a b = refl
rows_turned (item ∷ items) a b =
    (λ i. then_by (item_turned item (slice_index_or a item.place Null) (slice_index_or b item.place Null) i) (rows_turned items a b i))
    ∙ then_turned (row_order item b a) (rows_order items b a)

-- what comes before another is of its kind
less_kind : (x y : v.Value-F Value) → value_order x y ≡ Less → nat_cmp (kind x) (kind y) ≡ Equal
less_kind (v.Bool a) (v.Bool b) e = refl
less_kind (v.Int a) (v.Int b) e = refl
less_kind (v.Uint a) (v.Uint b) e = refl
less_kind (v.Text a) (v.Text b) e = refl
less_kind (v.Bytes a) (v.Bytes b) e = refl
less_kind (v.Date a) (v.Date b) e = refl
less_kind v.Null v.Null e = refl
less_kind (v.Array xs) (v.Array ys) e = refl
less_kind (v.Struct xs) (v.Struct ys) e = refl
less_kind _ _ e = cc

within_kind : (x y : v.Value-F Value) → nat_cmp (kind x) (kind y) ≡ Equal → whole_value_order x y ≡ value_order x y
within_kind x y e = ap (λ o. then_by o (value_order x y)) e

same_kinds : (x y z : v.Value-F Value) → nat_cmp (kind x) (kind y) ≡ Equal → nat_cmp (kind y) (kind z) ≡ Equal → nat_cmp (kind x) (kind z) ≡ Equal
same_kinds x y z e f = nat_cmp_total.congr (kind x) (kind y) (kind z) e ∙ f

-- the order is transitive
pub order_transitive : (x y z : Value) → order x y ≡ Less → order y z ≡ Less → order x z ≡ Less
order_transitive x y z e f =
    let a = out-Value x in
    let b = out-Value y in
    let c = out-Value z in
    let k = less_kind a b e in
    let l = less_kind b c f in
    sym (within_kind a c (same_kinds a b c k l)) ∙ whole_value_total.trans a b c (within_kind a b k ∙ e) (within_kind b c l ∙ f)

-- a value is as far as itself
pub order_itself : (x : Value) → order x x ≡ Equal
order_itself x = sym (within_kind (out-Value x) (out-Value x) (tied_itself nat_cmp_total (kind (out-Value x)))) ∙ tied_itself whole_value_total (out-Value x)

-- ---- rows of one table

kind_at : t.SqlType-F SqlType → ℕ
kind_at t.Bool = 1
kind_at t.Int32 = 2
kind_at t.Int64 = 2
kind_at t.Uint32 = 3
kind_at t.Uint64 = 3
kind_at t.Text = 4
kind_at t.Bytes = 5
kind_at t.Date = 6
kind_at _ = 0

fitting_kind : (form : t.SqlType-F SqlType) (x : v.Value-F Value) → fits_at form x ≡ true → orderable_layer form ≡ true → is_null x ≡ false → kind x ≡ kind_at form
unfolding kind_at
fitting_kind form v.Null fit orders some = absurd (false≢true (sym some))
fitting_kind (t.Array element) _ fit orders some = absurd (false≢true orders)
fitting_kind (t.Struct fields) _ fit orders some = absurd (false≢true orders)
fitting_kind t.Bool (v.Bool b) fit orders some = refl
fitting_kind t.Int32 (v.Int n) fit orders some = refl
fitting_kind t.Int64 (v.Int n) fit orders some = refl
fitting_kind t.Uint32 (v.Uint n) fit orders some = refl
fitting_kind t.Uint64 (v.Uint n) fit orders some = refl
fitting_kind t.Text (v.Text bytes) fit orders some = refl
fitting_kind t.Bytes (v.Bytes bytes) fit orders some = refl
fitting_kind t.Date (v.Date day) fit orders some = refl
fitting_kind _ _ fit orders some = absurd (false≢true fit)

placed_same : (item : SortItem) (n m : Bool) (o p : Ordering) → (n ≡ false → m ≡ false → o ≡ p) → placed item n m o ≡ placed item n m p
placed_same item true true o p same = refl
placed_same item true false o p same = refl
placed_same item false true o p same = refl
placed_same item false false o p same = ap (directed item.descending) (same refl refl)

-- values of one orderable type
pub whole_item_same : (item : SortItem) (ty : SqlType) (x y : Value) → fits ty x ≡ true → fits ty y ≡ true → orderable ty ≡ true → whole_item_order item x y ≡ item_order item x y
whole_item_same item ty x y fit_x fit_y orders =
    let a = out-Value x in
    let b = out-Value y in
    let form = out-SqlType ty in
    placed_same item (is_null a) (is_null b) (whole_value_order a b) (value_order a b) (λ some_x some_y.
    let k = fitting_kind form a (sym (fits_opens ty x) ∙ fit_x) orders some_x in
    let l = fitting_kind form b (sym (fits_opens ty y) ∙ fit_y) orders some_y in
    within_kind a b ((λ i. nat_cmp (k i) (l i)) ∙ tied_itself nat_cmp_total (kind_at form)))

missing_same : (item : SortItem) → whole_item_order item Null Null ≡ item_order item Null Null
missing_same item =
    placed_same item (is_null (out-Value Null)) (is_null (out-Value Null)) (whole_order Null Null) (order Null Null) (λ some_x some_y. absurd (false≢true (sym some_x ∙ ap is_null outs-Null)))

-- the values at one place of two rows
whole_place_same : (item : SortItem) (columns : List (Named SqlType)) (place : ℕ) (a b : List Value) → fits_row columns a ≡ true → fits_row columns b ≡ true → orders_column columns place ≡ true →
    whole_item_order item (slice_index_or a place Null) (slice_index_or b place Null) ≡ item_order item (slice_index_or a place Null) (slice_index_or b place Null)
whole_place_same item [] place [] [] fit_a fit_b orders = missing_same item
whole_place_same item [] place [] (y ∷ ys) fit_a fit_b orders = absurd (false≢true fit_b)
whole_place_same item [] place (x ∷ xs) b fit_a fit_b orders = absurd (false≢true fit_a)
whole_place_same item (c ∷ cs) place [] b fit_a fit_b orders = absurd (false≢true fit_a)
whole_place_same item (c ∷ cs) place (x ∷ xs) [] fit_a fit_b orders = absurd (false≢true fit_b)
whole_place_same item (c ∷ cs) zero (x ∷ xs) (y ∷ ys) fit_a fit_b orders = whole_item_same item c.ty x y (first _ _ fit_a) (first _ _ fit_b) orders
whole_place_same item (c ∷ cs) (suc place) (x ∷ xs) (y ∷ ys) fit_a fit_b orders = whole_place_same item cs place xs ys (second _ _ fit_a) (second _ _ fit_b) orders

-- rows of one table, by items that go by columns of orderable types
pub whole_rows_same : (items : List SortItem) (columns : List (Named SqlType)) (a b : List Value) → fits_row columns a ≡ true → fits_row columns b ≡ true → orders_columns columns items ≡ true → whole_rows_order items a b ≡ rows_order items a b
whole_rows_same [] columns a b fit_a fit_b orders = refl
whole_rows_same (item ∷ items) columns a b fit_a fit_b orders =
    λ i. then_by (whole_place_same item columns item.place a b fit_a fit_b (first _ _ orders) i) (whole_rows_same items columns a b fit_a fit_b (second _ _ orders) i)

-- on these the order of ORDER BY is transitive
pub rows_transitive : (items : List SortItem) (columns : List (Named SqlType)) (a b c : List Value) → fits_row columns a ≡ true → fits_row columns b ≡ true → fits_row columns c ≡ true → orders_columns columns items ≡ true →
    rows_order items a b ≡ Less → rows_order items b c ≡ Less → rows_order items a c ≡ Less
rows_transitive items columns a b c fit_a fit_b fit_c orders e f =
    sym (whole_rows_same items columns a c fit_a fit_c orders)
    ∙ (whole_rows_total items).trans a b c (whole_rows_same items columns a b fit_a fit_b orders ∙ e) (whole_rows_same items columns b c fit_b fit_c orders ∙ f)
