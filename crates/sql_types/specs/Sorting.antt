-- An order of all values and all rows, for sorting: of rows of one table it is the order that ORDER BY asks for, and it goes
-- on where two values are of different kinds, which no column has.
use Rattle.std.specs.Prelude.{ℕ, zero, suc, Bool, true, ◌&&◌, List, [], ◌∷◌, slice_index_or}
use Rattle.std.specs.declared.cmp.Ordering.{Ordering}
use Rattle.std.specs.declared.cmp.Ordering.TheVariants.{Equal}
use Rattle.std.specs.Ordering.{nat_cmp}
use Rattle.sql_types.specs.declared.sql_type.Named.{Named}
use Rattle.sql_types.specs.declared.sql_type.SqlType.{SqlType}
use Rattle.sql_types.specs.declared.value.Value.{Value, out-Value}
use Rattle.sql_types.specs.declared.value.Value.TheVariants.{Null}
use Rattle.sql_types.specs.declared.value.Value.TheOpen as v
use Rattle.sql_types.specs.declared.kinds.SortItem.{SortItem}
use Rattle.sql_types.specs.Before.{value_order, is_null, placed, then_by}
use Rattle.sql_types.specs.Comparable.{orderable}

-- the kinds of values that have an order; all others are one kind
abbrev pub kind : v.Value-F Value → ℕ
kind (v.Bool b) = 1
kind (v.Int n) = 2
kind (v.Uint n) = 3
kind (v.Text bytes) = 4
kind (v.Bytes bytes) = 5
kind (v.Date day) = 6
kind _ = 0

-- by kind, and within a kind by the order of values
abbrev pub whole_value_order : v.Value-F Value → v.Value-F Value → Ordering
whole_value_order x y = then_by (nat_cmp (kind x) (kind y)) (value_order x y)

abbrev pub whole_order : Value → Value → Ordering
whole_order x y = whole_value_order (out-Value x) (out-Value y)

abbrev pub whole_item_order : SortItem → Value → Value → Ordering
whole_item_order item x y = placed item (is_null (out-Value x)) (is_null (out-Value y)) (whole_order x y)

abbrev pub whole_row_order : SortItem → List Value → List Value → Ordering
whole_row_order item a b = whole_item_order item (slice_index_or a item.place Null) (slice_index_or b item.place Null)

abbrev pub whole_rows_order : List SortItem → List Value → List Value → Ordering
whole_rows_order [] a b = Equal
whole_rows_order (item ∷ items) a b = then_by (whole_row_order item a b) (whole_rows_order items a b)

-- the column at a place, if there is one, has an orderable type
abbrev pub orders_column : List (Named SqlType) → ℕ → Bool
orders_column [] place = true
orders_column (column ∷ columns) zero = orderable column.ty
orders_column (column ∷ columns) (suc place) = orders_column columns place

-- each item goes by a column of an orderable type
abbrev pub orders_columns : List (Named SqlType) → List SortItem → Bool
orders_columns columns [] = true
orders_columns columns (item ∷ items) = orders_column columns item.place && orders_columns columns items
