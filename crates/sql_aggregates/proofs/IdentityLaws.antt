-- The order of all values is total, and only the same values tie.
use Rattle.std.proofs.Common.{◌≡◌, ℕ, zero, suc, ◌+◌, ◌≤◌, ℤ, pos, Bool, true, false, List, [], ◌∷◌, map, refl, ap, sym, ◌∙◌, subst, arith, Decides}
use Rattle.std.specs.Cmp.{IsTotalOrder}
use Rattle.std.specs.Cmp.Lexicographic.{slice_cmp}
use Rattle.std.specs.Ordering.{nat_cmp, int_cmp, ordering_then, ordering_reverse, then_cmp, on, is_eq, MatchOrdering}
use Rattle.std.specs.declared.cmp.Ordering.{Ordering}
use Rattle.std.specs.declared.cmp.Ordering.TheVariants.{Less, Equal, Greater}
use Rattle.std.proofs.lemmas.Bool.Decides.{nat_tests}
use Rattle.std.proofs.lemmas.Int.{ints}
use Rattle.std.proofs.lemmas.Cmp.{nat_cmp_total, int_cmp_total, nat_list_cmp_total, lists_total, on_total, then_total, tied_itself, ranked, int_ranked}
use Rattle.sql_types.specs.declared.value.Value.{Value, map-Value, out-Value, roll-Value, roll-out-Value, out-roll-Value, ind-Value}
use Rattle.sql_types.specs.declared.value.Value.TheOpen as v
use Rattle.sql_types.specs.Before.{truth_order}
use Rattle.sql_aggregates.specs.Lists.{first}
use Rattle.sql_aggregates.specs.Identity.{kind, identity_order, identity_order_of_rows, first_order}
use Rattle.sql_aggregates.proofs.IdentityOpens.{order_at, identity_opens}

-- ---- by keys: the kind, a number, bytes, and parts

size : v.Value-F Value → ℤ
size (v.Bool true) = pos 1
size (v.Bool false) = pos 0
size (v.Int n) = n
size (v.Uint n) = pos n
size (v.Date day) = day
size _ = pos 0

bytes : v.Value-F Value → List ℕ
bytes (v.Text b) = b
bytes (v.Bytes b) = b
bytes _ = []

parts : v.Value-F Value → List Value
parts (v.Array xs) = xs
parts (v.Struct xs) = xs
parts _ = []

abbrev by_keys : (Value → Value → Ordering) → v.Value-F Value → v.Value-F Value → Ordering
by_keys R = then_cmp (on kind nat_cmp) (then_cmp (on size int_cmp) (then_cmp (on bytes (slice_cmp nat_cmp)) (on parts (slice_cmp R))))

by_keys_total : (R : Value → Value → Ordering) → IsTotalOrder R → IsTotalOrder (by_keys R)
by_keys_total R total =
    then_total (on_total kind nat_cmp_total) (then_total (on_total size int_cmp_total) (then_total (on_total bytes nat_list_cmp_total) (on_total parts (lists_total total))))

then_equal : (o : Ordering) → o ≡ ordering_then o Equal
then_equal Less = refl
then_equal Equal = refl
then_equal Greater = refl

unsigned : (a b : ℕ) → nat_cmp a b ≡ int_cmp (pos a) (pos b)
unsigned a b = grind (arith, nat_tests, ints)

keys_order : (x y : v.Value-F Value) → order_at x y ≡ by_keys identity_order x y
unfolding size bytes parts
keys_order (v.Bool true) (v.Bool true) = refl
keys_order (v.Bool true) (v.Bool false) = refl
keys_order (v.Bool false) (v.Bool true) = refl
keys_order (v.Bool false) (v.Bool false) = refl
keys_order (v.Int a) (v.Int b) = then_equal (int_cmp a b)
keys_order (v.Uint a) (v.Uint b) = unsigned a b ∙ then_equal (int_cmp (pos a) (pos b))
keys_order (v.Date a) (v.Date b) = then_equal (int_cmp a b)
keys_order (v.Text a) (v.Text b) = then_equal (slice_cmp nat_cmp a b)
keys_order (v.Bytes a) (v.Bytes b) = then_equal (slice_cmp nat_cmp a b)
keys_order (v.Array xs) (v.Array ys) = refl
keys_order (v.Struct xs) (v.Struct ys) = refl
keys_order v.Null v.Null = refl
keys_order _ _ = refl

-- ---- the order to a depth is total

to_depth : ℕ → Value → Value → Ordering
to_depth zero x y = Equal
to_depth (suc n) x y = by_keys (to_depth n) (out-Value x) (out-Value y)

depth_total : (n : ℕ) → IsTotalOrder (to_depth n)
unfolding to_depth
depth_total zero = record { antisymm = λ x y. refl; trans = λ x y z e f. e; congr = λ x y z e. refl }
depth_total (suc n) = on_total out-Value (by_keys_total (to_depth n) (depth_total n))

-- deep enough it is the order itself
abbrev Reached : Value → Type 0
Reached x = (m : ℕ) × ((n : ℕ) → m ≤ n → (y : Value) → identity_order x y ≡ to_depth n x y)

abbrev depth_of : List ((x : Value) × Reached x) → ℕ
depth_of [] = 0
depth_of (p ∷ ps) = p.1.0 + depth_of ps

lists_reached : (ps : List ((x : Value) × Reached x)) (n : ℕ) → depth_of ps ≤ n → (ys : List Value) → slice_cmp identity_order (map (λ p. p.0) ps) ys ≡ slice_cmp (to_depth n) (map (λ p. p.0) ps) ys
lists_reached [] n deep [] = refl
lists_reached [] n deep (y ∷ ys) = refl
lists_reached (p ∷ ps) n deep [] = refl
lists_reached (p ∷ ps) n deep (y ∷ ys) = λ i. ordering_then (p.1.1 n (omega arith) y i) (lists_reached ps n (omega arith) ys i)

abbrev shown : v.Value-F ((x : Value) × Reached x) → v.Value-F Value
shown = map-Value ((x : Value) × Reached x) Value (λ p. p.0)

abbrev FormReached : v.Value-F Value → Type 0
FormReached x = (m : ℕ) × ((n : ℕ) → m ≤ n → (y : v.Value-F Value) → by_keys identity_order x y ≡ by_keys (to_depth n) x y)

reached_by : (x : v.Value-F Value) (ps : List ((x : Value) × Reached x)) → parts x ≡ map (λ p. p.0) ps → FormReached x
reached_by x ps is = (
  depth_of ps,
  λ n deep y.
      ap (λ o. ordering_then (nat_cmp (kind x) (kind y)) (ordering_then (int_cmp (size x) (size y)) (ordering_then (slice_cmp nat_cmp (bytes x) (bytes y)) o)))
      (ap (λ xs. slice_cmp identity_order xs (parts y)) is ∙ lists_reached ps n deep (parts y) ∙ sym (ap (λ xs. slice_cmp (to_depth n) xs (parts y)) is)),
)

parts_reached : (x : v.Value-F ((x : Value) × Reached x)) → FormReached (shown x)
unfolding parts
parts_reached (v.Array ps) = reached_by (shown (v.Array ps)) ps refl
parts_reached (v.Struct ps) = reached_by (shown (v.Struct ps)) ps refl
parts_reached x = reached_by (shown x) [] refl

further : (x : v.Value-F Value) (m : ℕ) → ((n : ℕ) → m ≤ n → (y : v.Value-F Value) → by_keys identity_order x y ≡ by_keys (to_depth n) x y) → (n : ℕ) → suc m ≤ n → (y : Value) → identity_order (roll-Value x) y ≡ to_depth n (roll-Value x) y
unfolding to_depth
further x m same zero deep y = absurd (omega arith)
further x m same (suc n) deep y =
    identity_opens (roll-Value x) y ∙ ap (λ z. order_at z (out-Value y)) (out-roll-Value x) ∙ keys_order x (out-Value y) ∙ same n (omega arith) (out-Value y)
    ∙ sym (ap (λ z. by_keys (to_depth n) z (out-Value y)) (out-roll-Value x))

form_reached : (x : v.Value-F Value) → FormReached x → Reached (roll-Value x)
form_reached x reached = (suc reached.0, further x reached.0 reached.1)

reached : (x : Value) → Reached x
reached = ind-Value Reached (λ x parts is. subst (λ z. Reached (roll-Value z)) is (form_reached _ (parts_reached parts)))

-- ---- so is the order

turned : (x y : Value) → identity_order x y ≡ ordering_reverse (identity_order y x)
turned x y =
    let n : ℕ = (reached x).0 + (reached y).0 in
    (reached x).1 n (omega arith) y ∙ (depth_total n).antisymm x y ∙ sym (ap ordering_reverse ((reached y).1 n (omega arith) x))

chained : (x y z : Value) → identity_order x y ≡ Less → identity_order y z ≡ Less → identity_order x z ≡ Less
chained x y z less more =
    let n : ℕ = (reached x).0 + (reached y).0 in
    (reached x).1 n (omega arith) z ∙ (depth_total n).trans x y z (sym ((reached x).1 n (omega arith) y) ∙ less) (sym ((reached y).1 n (omega arith) z) ∙ more)

tied : (x y z : Value) → identity_order x y ≡ Equal → identity_order x z ≡ identity_order y z
tied x y z equal =
    let n : ℕ = (reached x).0 + (reached y).0 in
    (reached x).1 n (omega arith) z ∙ (depth_total n).congr x y z (sym ((reached x).1 n (omega arith) y) ∙ equal) ∙ sym ((reached y).1 n (omega arith) z)

pub identity_total : IsTotalOrder identity_order
identity_total = record { antisymm = turned; trans = chained; congr = tied }

-- ---- only the same values tie

abbrev IsTold : Value → Type 0
IsTold x = (y : Value) → identity_order x y ≡ Equal → x ≡ y

then_both : (o p : Ordering) → ordering_then o p ≡ Equal → (o ≡ Equal) × (p ≡ Equal)
then_both Less p e = cc
then_both Equal p e = (refl, e)
then_both Greater p e = cc

same_truths : (a b : Bool) → truth_order a b ≡ Equal → a ≡ b
same_truths true true e = refl
same_truths true false e = cc
same_truths false true e = cc
same_truths false false e = refl

at_equal : (o : Ordering) (P Q R : Type 0) → MatchOrdering o P Q R → o ≡ Equal → Q
at_equal Less P Q R h e = cc
at_equal Equal P Q R h e = h
at_equal Greater P Q R h e = cc

same_naturals : (a b : ℕ) → nat_cmp a b ≡ Equal → a ≡ b
same_naturals a b e = at_equal (nat_cmp a b) _ _ _ (ranked a b (nat_cmp a b) refl) e

same_numbers : (a b : ℤ) → int_cmp a b ≡ Equal → a ≡ b
same_numbers a b e = at_equal (int_cmp a b) _ _ _ (int_ranked a b (int_cmp a b) refl) e

same_bytes : (xs ys : List ℕ) → slice_cmp nat_cmp xs ys ≡ Equal → xs ≡ ys
same_bytes [] [] e = refl
same_bytes [] (y ∷ ys) e = cc
same_bytes (x ∷ xs) [] e = cc
same_bytes (x ∷ xs) (y ∷ ys) e =
    let h = then_both (nat_cmp x y) (slice_cmp nat_cmp xs ys) e in
    λ i. same_naturals x y h.0 i ∷ same_bytes xs ys h.1 i

lists_told : (ps : List ((x : Value) × IsTold x)) (ys : List Value) → identity_order_of_rows (map (λ p. p.0) ps) ys ≡ Equal → map (λ p. p.0) ps ≡ ys
lists_told [] [] e = refl
lists_told [] (y ∷ ys) e = cc
lists_told (p ∷ ps) [] e = cc
lists_told (p ∷ ps) (y ∷ ys) e =
    let h = then_both (identity_order p.0 y) (identity_order_of_rows (map (λ p. p.0) ps) ys) e in
    λ i. p.1 y h.0 i ∷ lists_told ps ys h.1 i

parts_told : (x : v.Value-F ((x : Value) × IsTold x)) (y : v.Value-F Value) → order_at (map-Value ((x : Value) × IsTold x) Value (λ p. p.0) x) y ≡ Equal → map-Value ((x : Value) × IsTold x) Value (λ p. p.0) x ≡ y
parts_told v.Null v.Null e = refl
parts_told (v.Bool a) (v.Bool b) e = ap v.Bool (same_truths a b e)
parts_told (v.Int a) (v.Int b) e = ap v.Int (same_numbers a b e)
parts_told (v.Uint a) (v.Uint b) e = ap v.Uint (same_naturals a b e)
parts_told (v.Text a) (v.Text b) e = ap v.Text (same_bytes a b e)
parts_told (v.Bytes a) (v.Bytes b) e = ap v.Bytes (same_bytes a b e)
parts_told (v.Date a) (v.Date b) e = ap v.Date (same_numbers a b e)
parts_told (v.Array xs) (v.Array ys) e = ap v.Array (lists_told xs ys e)
parts_told (v.Struct xs) (v.Struct ys) e = ap v.Struct (lists_told xs ys e)
parts_told _ _ e = cc

rolled_told : (x : v.Value-F Value) → ((y : v.Value-F Value) → order_at x y ≡ Equal → x ≡ y) → IsTold (roll-Value x)
rolled_told x told y equal =
    let e : identity_order (roll-Value x) y ≡ order_at x (out-Value y) = identity_opens (roll-Value x) y ∙ ap (λ z. order_at z (out-Value y)) (out-roll-Value x) in
    ap roll-Value (told (out-Value y) (sym e ∙ equal)) ∙ roll-out-Value y

pub identity_tells : (x y : Value) → identity_order x y ≡ Equal → x ≡ y
identity_tells = ind-Value IsTold (λ x parts is. subst (λ z. IsTold (roll-Value z)) is (rolled_told _ (parts_told parts)))

pub identity_itself : (x : Value) → identity_order x x ≡ Equal
identity_itself x = tied_itself identity_total x

-- ---- rows, and lists by their first values

pub rows_total : IsTotalOrder identity_order_of_rows
rows_total = lists_total identity_total

pub rows_tell : (xs ys : List Value) → identity_order_of_rows xs ys ≡ Equal → xs ≡ ys
rows_tell [] [] e = refl
rows_tell [] (y ∷ ys) e = cc
rows_tell (x ∷ xs) [] e = cc
rows_tell (x ∷ xs) (y ∷ ys) e =
    let h = then_both (identity_order x y) (identity_order_of_rows xs ys) e in
    λ i. identity_tells x y h.0 i ∷ rows_tell xs ys h.1 i

pub first_total : IsTotalOrder first_order
first_total = on_total first identity_total

-- ---- a tie, as a test

at_tie : (o : Ordering) → is_eq o ≡ true → o ≡ Equal
at_tie Less e = cc
at_tie Equal e = refl
at_tie Greater e = cc

itself : (x y : Value) → x ≡ y → is_eq (identity_order x y) ≡ true
itself x y same = ap (λ z. is_eq (identity_order x z)) (sym same) ∙ ap is_eq (identity_itself x)

pub value_ties : (x y : Value) → Decides (is_eq (identity_order x y)) (x ≡ y)
value_ties x y = (λ tie. identity_tells x y (at_tie (identity_order x y) tie), itself x y)

row_itself : (xs ys : List Value) → xs ≡ ys → is_eq (identity_order_of_rows xs ys) ≡ true
row_itself xs ys same = ap (λ z. is_eq (identity_order_of_rows xs z)) (sym same) ∙ ap is_eq (tied_itself rows_total xs)

pub row_ties : (xs ys : List Value) → Decides (is_eq (identity_order_of_rows xs ys)) (xs ≡ ys)
row_ties xs ys = (λ tie. rows_tell xs ys (at_tie (identity_order_of_rows xs ys) tie), row_itself xs ys)
