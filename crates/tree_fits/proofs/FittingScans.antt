-- Tables, references to queries of WITH lists, filters and joins: their rows have the types of their columns.
use Rattle.std.proofs.Common.{◌≡◌, ℕ, zero, suc, true, false, List, [], ◌∷◌, ◌++◌, length, Option, None, Some, Ok, Err, refl, sym, subst, ◌∙◌, arith}
use Rattle.std.specs.Prelude.{slice_index_or}
use Rattle.std.specs.List.{list_all}
use Rattle.sql_types.specs.declared.kinds.JoinKind.{JoinKind}
use Rattle.sql_types.specs.declared.rows.Param.{Param}
use Rattle.sql_types.specs.declared.sql_type.SqlType.{SqlType}
use Rattle.sql_types.specs.Fits.{fits, fits_row}
use Rattle.sql_types.specs.Joined.{Row}
use Rattle.sql_types.specs.Outcome.{Outcome}
use Rattle.sql_types.specs.Parted.{Each}
use Rattle.sql_types.specs.Takes.{fits_types}
use Rattle.resolved_ast.specs.declared.column.MadeColumn.{MadeColumn}
use Rattle.resolved_ast.specs.declared.rex.Rex.{Rex}
use Rattle.resolved_ast.specs.Columns.{columns, numbers}
use Rattle.resolved_ast.specs.Fitting.{SlotsFit, named, table_fits}
use Rattle.resolved_ast.specs.Flaws.{Sight, cte_types, reference, types_of}
use Rattle.resolved_ast.specs.Meanings.{TableRows, Means, reordered, join_tables, filter_table}
use Rattle.resolved_ast.specs.Signatures.{typed_as}
use Rattle.resolved_ast.specs.Slots.{Slots, Table, cte_rows}
use Rattle.resolved_ast.proofs.FitLaws.{first_of, second_of}
use Rattle.tree_fits.proofs.WalkTypes.{Typing, Agrees, InOrder, number_same}
use Rattle.tree_fits.proofs.Lists.{and_so, each_join, each_so, each_of_all}
use Rattle.tree_fits.proofs.RowFits.{RowFits, TableFits}
use Rattle.tree_fits.proofs.SameTypes.{same_type_is}
use Rattle.tree_fits.proofs.Sure.{OfOk, Sure, sure_gives, sure_then, sure_behind}
use Rattle.tree_fits.proofs.ScanRows.{any_order, kept_fit, among_left, among_right, all_listed, joined_fit}

-- ---- tables

row_named : (T : Typing) (columns : List MadeColumn) (row : Row) → Agrees T columns → fits_row (named columns) row ≡ true → RowFits T (numbers columns) row
row_named T [] [] agree fit = refl
row_named T [] (x ∷ row) agree fit = cc
row_named T (c ∷ columns) [] agree fit = cc
row_named T (c ∷ columns) (x ∷ row) agree fit = and_so _ _ (subst (λ type. fits type x ≡ true) (sym agree.0) (first_of _ _ fit)) (row_named T columns row agree.1 (second_of _ _ fit))

rows_there : (tables : TableRows) (number : ℕ) (columns : List MadeColumn) → table_fits tables number columns ≡ true → list_all (fits_row (named columns)) (slice_index_or tables number []) ≡ true
rows_there [] number columns fit = cc
rows_there (rows ∷ tables) zero columns fit = fit
rows_there (rows ∷ tables) (suc number) columns fit = rows_there tables number columns fit

-- the rows of a table, by its columns
pub table_ok : (T : Typing) (tables : TableRows) (number : ℕ) (columns : List MadeColumn) → Agrees T columns → table_fits tables number columns ≡ true →
    TableFits T columns (record { ids = numbers columns; rows = slice_index_or tables number [] })
table_ok T tables number columns agree fit = record {
  rows = each_so (λ row. fits_row (named columns) row ≡ true) (RowFits T (numbers columns)) (λ row so. row_named T columns row agree so) (slice_index_or tables number [])
      (each_of_all (fits_row (named columns)) (slice_index_or tables number []) (rows_there tables number columns fit));
  listed = all_listed columns;
}

-- ---- queries of WITH lists

row_given : (T : Typing) (given : List SqlType) (columns : List MadeColumn) (row : Row) → Agrees T columns → typed_as given (types_of columns) ≡ true → length given ≡ length (types_of columns) → fits_types given row ≡ true →
    RowFits T (numbers columns) row
row_given T [] [] [] agree typed as_many fit = refl
row_given T [] [] (x ∷ row) agree typed as_many fit = cc
row_given T [] (c ∷ columns) row agree typed as_many fit = absurd (omega (arith, as_many))
row_given T (type ∷ given) [] row agree typed as_many fit = absurd (omega (arith, as_many))
row_given T (type ∷ given) (c ∷ columns) [] agree typed as_many fit = cc
row_given T (type ∷ given) (c ∷ columns) (x ∷ row) agree typed as_many fit =
    and_so _ _ (subst (λ z. fits z x ≡ true) (same_type_is type c.ty (first_of _ _ typed) ∙ sym agree.0) (first_of _ _ fit)) (row_given T given columns row agree.1 (second_of _ _ typed) (omega (arith, as_many)) (second_of _ _ fit))

-- what holds of the rows that are there
told : (P : List Row → Type 0) (o : Outcome (List Row)) → ((rows : List Row) → o ≡ Ok rows → P rows) → OfOk P o
told P (Ok rows) holds = holds rows refl
told P (Err fault) holds = tt

reference_by : (T : Typing) (sight : Sight) (slots : Slots) (number : ℕ) (columns : List MadeColumn) (o : Option (List SqlType)) → cte_types number sight.ctes ≡ o → InOrder (reference (types_of columns) o) → Agrees T columns → SlotsFit sight slots →
    OfOk (Each (RowFits T (numbers columns))) (cte_rows slots number)
reference_by T sight slots number columns None is order agree fit = let wrong : false ≡ true = order.seen in cc
reference_by T sight slots number columns (Some given) is order agree fit =
    told (Each (RowFits T (numbers columns))) (cte_rows slots number) (λ rows has. each_so (λ row. fits_types given row ≡ true) (RowFits T (numbers columns))
    (λ row so. row_given T given columns row agree order.typed (number_same (length given) (length (types_of columns)) order.shaped) so) rows (each_of_all (fits_types given) rows (fit.ctes number given rows is has)))

pub reference_ok : (T : Typing) (sight : Sight) (slots : Slots) (number : ℕ) (columns : List MadeColumn) → InOrder (reference (types_of columns) (cte_types number sight.ctes)) → Agrees T columns → SlotsFit sight slots →
    OfOk (Each (RowFits T (numbers columns))) (cte_rows slots number)
reference_ok T sight slots number columns order agree fit = reference_by T sight slots number columns (cte_types number sight.ctes) refl order agree fit

-- ---- over tables

module _ (tables : TableRows) (params : List Param) (p : Means) (T : Typing) where
  -- a scan's rows in any order
  pub reordered_fits : (columns : List MadeColumn) (u : Table) → TableFits T columns u → Sure (reordered tables params p u) (TableFits T columns)
  reordered_fits columns u fit = sure_then (any_order (RowFits T u.ids) u.rows fit.rows) (λ rows each. sure_gives _ (record { rows = each; listed = fit.listed }))

  pub filter_fits : (columns : List MadeColumn) (condition : Rex) (u : Table) (slots : Slots) → TableFits T columns u → Sure (filter_table tables params p condition u slots) (TableFits T columns)
  filter_fits columns condition u slots fit = sure_behind (λ tests. sure_gives _ (record { rows = kept_fit (RowFits T u.ids) u.rows tests fit.rows; listed = fit.listed }))

  pub join_fits : (kind : JoinKind) (condition : Option Rex) (lefts rights : List MadeColumn) (left right : Table) (slots : Slots) → TableFits T lefts left → TableFits T rights right →
      Sure (join_tables tables params p kind condition left right slots) (TableFits T (lefts ++ rights))
  join_fits kind condition lefts rights left right slots left_fit right_fit = sure_behind (λ pairs. sure_gives _ (record {
    rows = joined_fit T left.ids right.ids kind left.rows right.rows pairs left_fit.rows right_fit.rows;
    listed = each_join _ lefts rights (each_so _ _ (λ c inside. among_left c.id.0 left.ids right.ids inside) lefts left_fit.listed)
        (each_so _ _ (λ c inside. among_right c.id.0 left.ids right.ids inside) rights right_fit.listed);
  }))
