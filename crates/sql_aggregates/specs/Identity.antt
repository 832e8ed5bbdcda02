-- A total order of all values in which only the same values tie, so that a sort by it brings those together. NULL comes
-- first, and values of one orderable type stand in their order.
use Rattle.std.specs.Prelude.{ℕ, List, [], ◌∷◌}
use Rattle.std.specs.declared.cmp.Ordering.{Ordering}
use Rattle.std.specs.declared.cmp.Ordering.TheVariants.{Less, Equal, Greater}
use Rattle.std.specs.Ordering.{nat_cmp, int_cmp, ordering_then}
use Rattle.std.specs.Cmp.Lexicographic.{slice_cmp}
use Rattle.sql_types.specs.declared.value.Value.{Value, out-Value, fold-Value}
use Rattle.sql_types.specs.declared.value.Value.TheOpen as v
use Rattle.sql_types.specs.Before.{truth_order, value_order}
use Rattle.sql_aggregates.specs.Lists.{first}

-- the kinds in order
abbrev pub kind : {A : Type 0} → v.Value-F A → ℕ
kind v.Null = 0
kind (v.Bool b) = 1
kind (v.Int n) = 2
kind (v.Uint n) = 3
kind (v.Text bytes) = 4
kind (v.Bytes bytes) = 5
kind (v.Date day) = 6
kind (v.Array elements) = 7
kind (v.Struct fields) = 8

-- the first part that tells two lists apart decides, and then their length; the left parts are given by their order
abbrev pub parts_order : List (Value → Ordering) → List Value → Ordering
parts_order [] [] = Equal
parts_order [] (y ∷ ys) = Less
parts_order (f ∷ fs) [] = Greater
parts_order (f ∷ fs) (y ∷ ys) = ordering_then (f y) (parts_order fs ys)

-- two values of one kind; the parts of the left value are given by their order
abbrev pub within_kind : v.Value-F (Value → Ordering) → v.Value-F Value → Ordering
within_kind (v.Bool a) (v.Bool b) = truth_order a b
within_kind (v.Int a) (v.Int b) = int_cmp a b
within_kind (v.Uint a) (v.Uint b) = nat_cmp a b
within_kind (v.Text a) (v.Text b) = slice_cmp nat_cmp a b
within_kind (v.Bytes a) (v.Bytes b) = slice_cmp nat_cmp a b
within_kind (v.Date a) (v.Date b) = int_cmp a b
within_kind (v.Array xs) (v.Array ys) = parts_order xs ys
within_kind (v.Struct xs) (v.Struct ys) = parts_order xs ys
within_kind _ _ = Equal

-- by kind, and within a kind by content
abbrev pub identity_layer : v.Value-F (Value → Ordering) → v.Value-F Value → Ordering
identity_layer x y = ordering_then (nat_cmp (kind x) (kind y)) (within_kind x y)

unfoldable pub identity_order : Value → Value → Ordering
identity_order = fold-Value (Value → Ordering) (λ x y. identity_layer x (out-Value y))

-- two lists of values
abbrev pub identity_order_of_rows : List Value → List Value → Ordering
identity_order_of_rows = slice_cmp identity_order

-- two values of one kind, whose parts stand as they are
abbrev pub order_within : v.Value-F Value → v.Value-F Value → Ordering
order_within (v.Array xs) (v.Array ys) = identity_order_of_rows xs ys
order_within (v.Struct xs) (v.Struct ys) = identity_order_of_rows xs ys
order_within x y = value_order x y

-- two lists by their first values
abbrev pub first_order : List Value → List Value → Ordering
first_order a b = identity_order (first a) (first b)
