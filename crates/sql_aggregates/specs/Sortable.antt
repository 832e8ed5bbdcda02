-- Lists that ORDER BY can put in order.
use Rattle.std.specs.Prelude.{◌≡◌, true, List}
use Rattle.std.specs.List.{list_all}
use Rattle.sql_types.specs.declared.kinds.SortItem.{SortItem}
use Rattle.sql_types.specs.declared.sql_type.Named.{Named}
use Rattle.sql_types.specs.declared.sql_type.SqlType.{SqlType}
use Rattle.sql_types.specs.declared.value.Value.{Value}
use Rattle.sql_types.specs.Fits.{fits_row}
use Rattle.sql_types.specs.Sorting.{orders_columns}

-- they fit columns, those of the items of orderable types
pub record Sortable (items : List SortItem) (lists : List (List Value)) : Type 0 where
  pub columns : List (Named SqlType)
  pub orders : orders_columns columns items ≡ true
  pub fit : list_all (fits_row columns) lists ≡ true
