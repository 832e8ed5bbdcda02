-- The values of a column that a subquery takes of its scan's rows.
use Rattle.std.proofs.Common.{◌≡◌, ℕ, Bool, true, List, [], ◌∷◌, map, sym, subst, ◌∙◌, ap}
use Rattle.sql_types.specs.declared.sql_type.SqlType.{SqlType}
use Rattle.sql_types.specs.declared.value.Value.{Value}
use Rattle.sql_types.specs.Fits.{fits}
use Rattle.sql_types.specs.Joined.{Row}
use Rattle.sql_types.specs.Parted.{Each}
use Rattle.resolved_ast.specs.declared.column.ColumnRef.{ColumnRef}
use Rattle.resolved_ast.specs.declared.column.MadeColumn.{MadeColumn}
use Rattle.resolved_ast.specs.Columns.{among}
use Rattle.resolved_ast.specs.Flaws.{sees_such}
use Rattle.resolved_ast.specs.Meanings.{column_values}
use Rattle.resolved_ast.specs.Slots.{Table, value_at, bound}
use Rattle.tree_fits.proofs.WalkTypes.{Typing, Agrees}
use Rattle.tree_fits.proofs.RowFits.{RowFits, TableFits, found_fits}
use Rattle.tree_fits.proofs.ColumnsSeen.{such_column}

-- a column among those of the rows, with its number's type
abbrev pub Among : Typing → List ℕ → MadeColumn → Type 0
Among T ids c = (T c.id.0 ≡ c.ty) × (among c.id.0 ids ≡ true)

pub each_among : (T : Typing) (ids : List ℕ) (columns : List MadeColumn) → Agrees T columns → Each (λ (c : MadeColumn). among c.id.0 ids ≡ true) columns → Each (Among T ids) columns
each_among T ids [] agree listed = tt
each_among T ids (c ∷ columns) agree listed = ((agree.0, listed.0), each_among T ids columns agree.1 listed.1)

-- in a row, what stands under the number that a node refers to
pub at_number : (T : Typing) (ids : List ℕ) (row : Row) (values : List (ℕ × Value)) (n : ℕ) (c : MadeColumn) → n ≡ c.id.0 → Among T ids c → RowFits T ids row → fits c.ty (value_at (bound ids row values) n) ≡ true
at_number T ids row values n c is among_ids fit =
    subst (λ ty. fits ty (value_at (bound ids row values) n) ≡ true) (ap T is ∙ among_ids.0) (found_fits T ids row values n fit (subst (λ m. among m ids ≡ true) (sym is) among_ids.1))

values_of : (T : Typing) (ids : List ℕ) (rows : List Row) (n : ℕ) (c : MadeColumn) → n ≡ c.id.0 → Among T ids c → Each (RowFits T ids) rows →
    Each (λ x. fits c.ty x ≡ true) (map (λ row. value_at (bound ids row []) n) rows)
values_of T ids [] n c is among_ids each = tt
values_of T ids (row ∷ rows) n c is among_ids each = (at_number T ids row [] n c is among_ids each.0, values_of T ids rows n c is among_ids each.1)

-- they fit a type that the test takes
pub taken_values : (T : Typing) (columns : List MadeColumn) (u : Table) (r : ColumnRef) (test : SqlType → Bool) → Agrees T columns → TableFits T columns u → sees_such r test columns ≡ true →
    (type : SqlType) × (test type ≡ true) × Each (λ x. fits type x ≡ true) (column_values r.id.0 u)
taken_values T columns u r test agree fit seen =
    let found = such_column (Among T u.ids) r test columns (each_among T u.ids columns agree fit.listed) seen in
    (found.0.ty, found.3, values_of T u.ids u.rows r.id.0 found.0 found.2 found.1 fit.rows)
