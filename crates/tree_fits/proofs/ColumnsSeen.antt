-- What holds of each column in sight holds of the one that a test finds.
use Rattle.std.proofs.Common.{◌≡◌, Bool, true, false, ◌&&◌, List, [], ◌∷◌, Some, if◌then◌else◌, refl}
use Rattle.std.specs.Prelude.{◌||◌, not, is_some}
use Rattle.sql_types.specs.declared.sql_type.SqlType.{SqlType}
use Rattle.sql_types.specs.Parted.{Each}
use Rattle.resolved_ast.specs.declared.column.ColumnRef.{ColumnRef}
use Rattle.resolved_ast.specs.declared.column.MadeColumn.{MadeColumn}
use Rattle.resolved_ast.specs.Columns.{column_of, is_named}
use Rattle.resolved_ast.specs.Flaws.{sees, sees_such, if_seen}
use Rattle.resolved_ast.proofs.FitLaws.{first_of, second_of}
use Rattle.tree_fits.proofs.WalkTypes.{number_same}

named_same : (r : ColumnRef) (c : MadeColumn) → is_named r c ≡ true → r.id.0 ≡ c.id.0
named_same r c is = number_same r.id.0 c.id.0 (first_of _ _ is)

module _ (P : MadeColumn → Type 0) (r : ColumnRef) where
  -- a column of this number, of which the fact and the test hold
  pub such_column : (test : SqlType → Bool) (columns : List MadeColumn) → Each P columns → sees_such r test columns ≡ true → (c : MadeColumn) × P c × (r.id.0 ≡ c.id.0) × (test c.ty ≡ true)
  such_column test [] each seen = cc
  such_column test (c ∷ columns) each seen = by (such_column test columns each.1) (is_named r c && test c.ty) refl seen
    where
      by : (sees_such r test columns ≡ true → (c : MadeColumn) × P c × (r.id.0 ≡ c.id.0) × (test c.ty ≡ true)) →
          (b : Bool) → (is_named r c && test c.ty) ≡ b → (b || sees_such r test columns) ≡ true → (c : MadeColumn) × P c × (r.id.0 ≡ c.id.0) × (test c.ty ≡ true)
      by later true is seen = (c, each.0, named_same r c (first_of _ _ is), second_of _ _ is)
      by later false is seen = later seen

  -- the column that a node refers to
  pub column_found : (columns : List MadeColumn) → Each P columns → sees r columns ≡ true → (c : MadeColumn) × P c × (r.id.0 ≡ c.id.0) × (column_of r columns ≡ Some c)
  column_found [] each seen = cc
  column_found (c ∷ columns) each seen = by (column_found columns each.1) (is_named r c) refl seen
    where
      by : (sees r columns ≡ true → (d : MadeColumn) × P d × (r.id.0 ≡ d.id.0) × (column_of r columns ≡ Some d)) →
          (b : Bool) → is_named r c ≡ b → is_some (if b then Some c else column_of r columns) ≡ true →
          (d : MadeColumn) × P d × (r.id.0 ≡ d.id.0) × ((if b then Some c else column_of r columns) ≡ Some d)
      by later true is seen = (c, each.0, named_same r c is, refl)
      by later false is seen = later seen

-- the column is seen, and so is its type
pub seen_such : (r : ColumnRef) (test : SqlType → Bool) (columns : List MadeColumn) → sees r columns ≡ true → if_seen r test columns ≡ true → sees_such r test columns ≡ true
seen_such r test columns seen typed = by (sees r columns) seen typed
  where
    by : (b : Bool) → b ≡ true → (not b || sees_such r test columns) ≡ true → sees_such r test columns ≡ true
    by true is typed = typed
    by false is typed = cc
