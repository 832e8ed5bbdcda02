-- The columns of the items that are left, behind those so far, are all the columns.
use Rattle.std.proofs.Common.{◌≡◌, drop}
use Rattle.serde_json.specs.View.{items_view}
use Rattle.small_catalog.specs.Catalogs.{columns_of}
use Rattle.small_catalog.proofs.ColumnLaws.{after_columns}
use Rattle.small_catalog.proofs.column.read_items.Given as goal

abbrev pub invariant-loop-item : goal.invariant-loop-item
invariant-loop-item l = after_columns l.columns (columns_of (items_view (drop l.item-index l.items))) ≡ columns_of (items_view l.items)
