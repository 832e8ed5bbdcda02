-- The queries of a WITH list: rows of their columns' types, for those behind them and for the scan.
use Rattle.std.proofs.Common.{◌≡◌, ℕ, Bool, true, false, List, [], ◌∷◌, Option, None, Some, Ok, if◌then◌else◌, refl, sym, subst}
use Rattle.std.specs.Prelude.{◌==◌}
use Rattle.std.specs.List.{list_all}
use Rattle.sql_types.specs.declared.rows.Param.{Param}
use Rattle.sql_types.specs.declared.sql_type.SqlType.{SqlType}
use Rattle.sql_types.specs.Joined.{Row}
use Rattle.sql_types.specs.Outcome.{Outcome}
use Rattle.sql_types.specs.Parted.{Each}
use Rattle.sql_types.specs.Takes.{fits_types}
use Rattle.resolved_ast.specs.declared.column.ColumnRef.{ColumnRef}
use Rattle.resolved_ast.specs.declared.column.MadeColumn.{MadeColumn}
use Rattle.resolved_ast.specs.declared.scan.Cte.{Cte}
use Rattle.resolved_ast.specs.declared.scan.Scan.{Scan}
use Rattle.resolved_ast.specs.Columns.{columns, ids_of}
use Rattle.resolved_ast.specs.Fitting.{SlotsFit}
use Rattle.resolved_ast.specs.Flaws.{Sight, CteSeen, ScanPart, all_seen, cte_seen, cte_types, with_cte}
use Rattle.resolved_ast.specs.Meanings.{TableRows, Means, cte_means, with_means}
use Rattle.resolved_ast.specs.Slots.{Slots, bound, picked, found_or}
use Rattle.resolved_ast.specs.Slots.{with_cte as with_rows}
use Rattle.resolved_ast.proofs.FitLaws.{first_of, second_of}
use Rattle.resolved_ast.proofs.WalkLaws.{scan_part}
use Rattle.tree_fits.proofs.WalkTypes.{Typing}
use Rattle.tree_fits.proofs.Lists.{and_so, all_of_each, each_mapped}
use Rattle.tree_fits.proofs.RowFits.{RowFits, SightAgrees, TableFits}
use Rattle.tree_fits.proofs.ColumnsSeen.{column_found}
use Rattle.tree_fits.proofs.Sure.{Sure, sure_by, sure_value, sure_gives, sure_then}
use Rattle.tree_fits.proofs.TakenColumns.{Among, each_among, at_number}
use Rattle.tree_fits.proofs.NodeFacts.{ScanOk}

abbrev pub cte_part : Cte Scan → Cte ScanPart
cte_part c = record { number = c.number; columns = c.columns; scan = scan_part c.scan }

-- a query of the list: its columns are among those of its scan
pub record CteOk (p : Means) (T : Typing) (sight : Sight) (c : Cte Scan) : Type 0 where
  pub seen : all_seen c.columns (columns c.scan) ≡ true
  pub scan : ScanOk p T sight c.scan

abbrev pub WithOk : Means → Typing → Sight → List (Cte Scan) → Scan → Type 0
WithOk p T sight [] x = ScanOk p T sight x
WithOk p T sight (c ∷ cs) x = CteOk p T sight c × WithOk p T (with_cte sight (cte_seen (cte_part c))) cs x

-- the types that a query of the list is seen with
abbrev types_seen : ℕ → ScanPart → List ColumnRef → List SqlType
types_seen number scan refs = (cte_seen (record { number = number; columns = refs; scan = scan })).types

abbrev with_first : Option MadeColumn → List SqlType → List SqlType
with_first o types = elim o [ None ↦ types | Some c ↦ c.ty ∷ types ]

row_seen : (number : ℕ) (scan : ScanPart) (T : Typing) (ids : List ℕ) (row : Row) (refs : List ColumnRef) → Each (Among T ids) (columns scan.0) → RowFits T ids row → all_seen refs (columns scan.0) ≡ true →
    fits_types (types_seen number scan refs) (picked (ids_of refs) (bound ids row [])) ≡ true
row_seen number scan T ids row [] each fit seen = refl
row_seen number scan T ids row (r ∷ refs) each fit seen =
    let found = column_found (Among T ids) r (columns scan.0) each (first_of _ _ seen) in
    subst (λ o. fits_types (with_first o (types_seen number scan refs)) (picked (ids_of (r ∷ refs)) (bound ids row [])) ≡ true) (sym found.3)
    (and_so _ _ (at_number T ids row [] r.id.0 found.0 found.2 found.1 fit) (row_seen number scan T ids row refs each fit (second_of _ _ seen)))

module _ (tables : TableRows) (params : List Param) (p : Means) (T : Typing) where
  -- the rows of a query have the types that it is seen with
  abbrev Rows : Cte Scan → List Row → Type 0
  Rows c rows = list_all (fits_types (cte_seen (cte_part c)).types) rows ≡ true

  cte_fits : (c : Cte Scan) (sight : Sight) (slots : Slots) → CteOk p T sight c → SightAgrees T sight → SlotsFit sight slots → Sure (cte_means tables params p c slots) (Rows c)
  cte_fits c sight slots ok agree fit =
      sure_then (ok.scan.gives agree slots fit) (λ u rows. sure_gives _ (all_of_each (fits_types (cte_seen (cte_part c)).types) _
      (each_mapped (λ row. picked (ids_of c.columns) (bound u.ids row [])) (RowFits T u.ids) (λ row. fits_types (cte_seen (cte_part c)).types row ≡ true)
      (λ row so. row_seen c.number (scan_part c.scan) T u.ids row c.columns (each_among T u.ids (columns c.scan) ok.scan.agrees rows.listed) so ok.seen) u.rows rows.rows)))

-- slots with one more query, whose one outcome may be a fault
more_fits : (sight : Sight) (slots : Slots) (seen : CteSeen) (taken : Outcome (List Row)) → SlotsFit sight slots → ((rows : List Row) → taken ≡ Ok rows → list_all (fits_types seen.types) rows ≡ true) →
    SlotsFit (with_cte sight seen) (with_rows slots seen.number taken)
more_fits sight slots seen taken fit told = record {
  values = fit.values;
  ctes = λ number types rows is has. by number types rows (seen.number == number) is has;
}
  where
    by : (number : ℕ) (types : List SqlType) (rows : List Row) (b : Bool) → (if b then Some seen.types else cte_types number sight.ctes) ≡ Some types →
        (if b then taken else found_or (Ok []) number slots.ctes) ≡ Ok rows → list_all (fits_types types) rows ≡ true
    by number types rows true is has = let same : seen.types ≡ types = cc in subst (λ z. list_all (fits_types z) rows ≡ true) same (told rows has)
    by number types rows false is has = fit.ctes number types rows is has

module _ (tables : TableRows) (params : List Param) (p : Means) (T : Typing) where
  pub with_fits : (cs : List (Cte Scan)) (x : Scan) (sight : Sight) (slots : Slots) → WithOk p T sight cs x → SightAgrees T sight → SlotsFit sight slots →
      Sure (with_means tables params p cs x slots) (TableFits T (columns x))
  with_fits [] x sight slots ok agree fit = ok.gives agree slots fit
  with_fits (c ∷ cs) x sight slots ok agree fit =
      sure_by (λ o given. (with_fits cs x (with_cte sight (cte_seen (cte_part c))) (with_rows slots c.number given.0) ok.1 agree
      (more_fits sight slots (cte_seen (cte_part c)) given.0 fit (λ rows is.
      sure_value (cte_fits tables params p T c sight slots ok.0 agree fit) rows (subst (λ taken. cte_means tables params p c slots taken) is given.1)))).every o given.2)
