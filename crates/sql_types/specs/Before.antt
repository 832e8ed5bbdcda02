-- The order of values and of rows.
use Rattle.std.specs.Prelude.{◌≡◌, Bool, true, false, List, [], ◌∷◌, slice_index_or}
use Rattle.std.specs.declared.cmp.Ordering.{Ordering}
use Rattle.std.specs.declared.cmp.Ordering.TheVariants.{Less, Equal, Greater}
use Rattle.std.specs.Ordering.{nat_cmp, int_cmp}
use Rattle.std.specs.Cmp.Lexicographic.{slice_cmp}
use Rattle.sql_types.specs.declared.value.Value.{Value, out-Value}
use Rattle.sql_types.specs.declared.value.Value.TheVariants.{Null}
use Rattle.sql_types.specs.declared.value.Value.TheOpen as v
use Rattle.sql_types.specs.declared.kinds.SortItem.{SortItem}

-- FALSE comes before TRUE
abbrev pub truth_order : Bool → Bool → Ordering
truth_order true true = Equal
truth_order true false = Greater
truth_order false true = Less
truth_order false false = Equal

-- two values of one orderable type, neither NULL; STRING and BYTES are ordered by bytes
abbrev pub value_order : v.Value-F Value → v.Value-F Value → Ordering
value_order (v.Bool a) (v.Bool b) = truth_order a b
value_order (v.Int a) (v.Int b) = int_cmp a b
value_order (v.Uint a) (v.Uint b) = nat_cmp a b
value_order (v.Text a) (v.Text b) = slice_cmp nat_cmp a b
value_order (v.Bytes a) (v.Bytes b) = slice_cmp nat_cmp a b
value_order (v.Date a) (v.Date b) = int_cmp a b
value_order _ _ = Equal

abbrev pub order : Value → Value → Ordering
order x y = value_order (out-Value x) (out-Value y)

abbrev pub flipped : Ordering → Ordering
flipped Less = Greater
flipped Equal = Equal
flipped Greater = Less

-- DESC turns the order
abbrev pub directed : Bool → Ordering → Ordering
directed true o = flipped o
directed false o = o

-- where NULL goes, beside a value that isn't NULL
abbrev pub null_order : Bool → Ordering
null_order true = Less
null_order false = Greater

abbrev pub is_null : v.Value-F Value → Bool
is_null v.Null = true
is_null _ = false

-- by which of the two values is NULL
abbrev pub placed : SortItem → Bool → Bool → Ordering → Ordering
placed item true true o = Equal
placed item true false o = null_order item.nulls_first
placed item false true o = flipped (null_order item.nulls_first)
placed item false false o = directed item.descending o

-- two values by one item
abbrev pub item_order : SortItem → Value → Value → Ordering
item_order item x y = placed item (is_null (out-Value x)) (is_null (out-Value y)) (order x y)

-- two rows by one item
abbrev pub row_order : SortItem → List Value → List Value → Ordering
row_order item a b = item_order item (slice_index_or a item.place Null) (slice_index_or b item.place Null)

-- the first item that tells two rows apart decides
abbrev pub then_by : Ordering → Ordering → Ordering
then_by Less later = Less
then_by Equal later = later
then_by Greater later = Greater

abbrev pub rows_order : List SortItem → List Value → List Value → Ordering
rows_order [] a b = Equal
rows_order (item ∷ items) a b = then_by (row_order item a b) (rows_order items a b)

-- the one row comes before the other by a sort item
abbrev pub Before : SortItem → List Value → List Value → Type 0
Before item a b = row_order item a b ≡ Less

-- by several items
abbrev pub BeforeBy : List SortItem → List Value → List Value → Type 0
BeforeBy items a b = rows_order items a b ≡ Less
