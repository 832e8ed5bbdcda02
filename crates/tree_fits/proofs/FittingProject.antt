-- Project: the columns that are listed, of those of the scan and those computed.
use Rattle.std.proofs.Common.{◌≡◌, ℕ, Bool, true, false, List, [], ◌∷◌, ◌++◌, map, if◌then◌else◌, refl, sym, subst}
use Rattle.sql_types.specs.declared.rows.Param.{Param}
use Rattle.sql_types.specs.Fits.{fits}
use Rattle.sql_types.specs.Joined.{Row}
use Rattle.sql_types.specs.Parted.{Each}
use Rattle.resolved_ast.specs.declared.column.ColumnRef.{ColumnRef}
use Rattle.resolved_ast.specs.declared.column.MadeColumn.{MadeColumn}
use Rattle.resolved_ast.specs.declared.rex.Compute.{Compute}
use Rattle.resolved_ast.specs.declared.rex.Rex.{Rex}
use Rattle.resolved_ast.specs.Columns.{among, is_named, named_by, listed, computed_columns, ids_of, numbers, rex_type}
use Rattle.resolved_ast.specs.Fitting.{SlotsFit}
use Rattle.resolved_ast.specs.Flaws.{Sight, over, all_seen}
use Rattle.resolved_ast.specs.Meanings.{TableRows, Means, project_row, project_table}
use Rattle.resolved_ast.specs.Slots.{Slots, Table, value_at, bound, within, picked}
use Rattle.resolved_ast.proofs.FitLaws.{first_of, second_of}
use Rattle.tree_fits.proofs.WalkTypes.{Typing, Agrees, number_same}
use Rattle.tree_fits.proofs.Lists.{each_join, each_so}
use Rattle.tree_fits.proofs.RowFits.{RowFits, both_ways, SightAgrees, TableFits, bound_fits, found_fits, over_fits, over_agrees, picked_fits}
use Rattle.tree_fits.proofs.ColumnsSeen.{column_found}
use Rattle.tree_fits.proofs.Sure.{Sure, sure_gives, sure_then, sure_map, sure_gather, each_sure}
use Rattle.tree_fits.proofs.ScanRows.{among_first, among_right, all_listed}
use Rattle.tree_fits.proofs.FittingForms.{Operands, gather_fits}
use Rattle.tree_fits.proofs.FittingParts.{of_type}
use Rattle.tree_fits.proofs.FittingLet.{ComputeOk}

-- ---- the columns that are listed

module _ (P : MadeColumn → Type 0) where
  named_each : (r : ColumnRef) (columns : List MadeColumn) → Each P columns → Each P (named_by r columns)
  named_each r [] each = tt
  named_each r (c ∷ columns) each = by (is_named r c) (named_each r columns each.1)
    where
      by : (b : Bool) → Each P (named_by r columns) → Each P (if b then c ∷ named_by r columns else named_by r columns)
      by true rest = (each.0, rest)
      by false rest = rest

  pub listed_each : (refs : List ColumnRef) (columns : List MadeColumn) → Each P columns → Each P (listed refs columns)
  listed_each [] columns each = tt
  listed_each (r ∷ refs) columns each = each_join P (named_by r columns) (listed refs columns) (named_each r columns each) (listed_each refs columns each)

named_among : (r : ColumnRef) (ids : List ℕ) (columns : List MadeColumn) → Each (λ (c : MadeColumn). among c.id.0 (r.id.0 ∷ ids) ≡ true) (named_by r columns)
named_among r ids [] = tt
named_among r ids (c ∷ columns) = by (is_named r c) refl (named_among r ids columns)
  where
    by : (b : Bool) → is_named r c ≡ b → Each (λ (d : MadeColumn). among d.id.0 (r.id.0 ∷ ids) ≡ true) (named_by r columns) →
        Each (λ (d : MadeColumn). among d.id.0 (r.id.0 ∷ ids) ≡ true) (if b then c ∷ named_by r columns else named_by r columns)
    by true is rest = (subst (λ n. among n (r.id.0 ∷ ids) ≡ true) (number_same r.id.0 c.id.0 (first_of _ _ is)) (among_first r.id.0 ids), rest)
    by false is rest = rest

listed_among : (refs : List ColumnRef) (columns : List MadeColumn) → Each (λ (c : MadeColumn). among c.id.0 (ids_of refs) ≡ true) (listed refs columns)
listed_among [] columns = tt
listed_among (r ∷ refs) columns =
    each_join _ (named_by r columns) (listed refs columns) (named_among r (ids_of refs) columns)
    (each_so _ _ (λ c inside. among_right c.id.0 (r.id.0 ∷ []) (ids_of refs) inside) (listed refs columns) (listed_among refs columns))

-- ---- one row

module _ (T : Typing) (ids : List ℕ) (row : Row) (computed : List ℕ) (made : Row) (row_fit : RowFits T ids row) (made_fit : RowFits T computed made) where
  -- a column is in the row, where it isn't one of those computed
  abbrev pub There : MadeColumn → Type 0
  There c = among c.id.0 computed ≡ false → among c.id.0 ids ≡ true

  value_fits : (n : ℕ) (c : MadeColumn) → n ≡ c.id.0 → There c → fits (T n) (value_at (bound computed made (bound ids row [])) n) ≡ true
  value_fits n c is stands =
      bound_fits T computed made (bound ids row []) n made_fit (λ out. found_fits T ids row [] n row_fit
      (subst (λ m. among m ids ≡ true) (sym is) (stands (subst (λ m. among m computed ≡ false) is out))))

  each_value : (refs : List ColumnRef) (columns : List MadeColumn) → Each There columns → all_seen refs columns ≡ true → Each (λ n. fits (T n) (value_at (bound computed made (bound ids row [])) n) ≡ true) (ids_of refs)
  each_value [] columns each seen = tt
  each_value (r ∷ refs) columns each seen =
      let found = column_found There r columns each (first_of _ _ seen) in
      (value_fits r.id.0 found.0 found.2 found.1, each_value refs columns each (second_of _ _ seen))

  row_listed : (refs : List ColumnRef) (columns : List MadeColumn) → Each There columns → all_seen refs columns ≡ true → RowFits T (ids_of refs) (picked (ids_of refs) (bound computed made (bound ids row [])))
  row_listed refs columns each seen = picked_fits T (ids_of refs) (bound computed made (bound ids row [])) (each_value refs columns each seen)

-- ---- the table

module _ (tables : TableRows) (params : List Param) (p : Means) (T : Typing) (sight : Sight) (slots : Slots) where
  -- the columns computed have their numbers' types
  computed_operands : (inside : Sight) (row_slots : Slots) → SightAgrees T inside → SlotsFit inside row_slots → (cs : List (Compute Rex)) → Each (ComputeOk p T inside) cs →
      Operands (map T (numbers (computed_columns cs))) (map (λ (c : Compute Rex). p.rex c.expr row_slots) cs)
  computed_operands inside row_slots agree fit [] each = tt
  computed_operands inside row_slots agree fit (c ∷ cs) each = (
    sure_map (λ x of. subst (λ type. fits type x ≡ true) (sym each.0.agrees) (of_type c.column.ty (rex_type c.expr) x each.0.typed of)) (each.0.expr.gives agree row_slots fit),
    computed_operands inside row_slots agree fit cs each.1,
  )

  pub project_fits : (refs : List ColumnRef) (cs : List (Compute Rex)) (columns : List MadeColumn) (u : Table) → all_seen refs (columns ++ computed_columns cs) ≡ true → Agrees T columns → Each (ComputeOk p T (over sight columns)) cs →
      SightAgrees T sight → SlotsFit sight slots → TableFits T columns u → Sure (project_table tables params p (ids_of refs) cs u slots) (TableFits T (listed refs (columns ++ computed_columns cs)))
  project_fits refs cs columns u seen own each agree fit rows =
      let computed = numbers (computed_columns cs) in
      let stand = each_join (λ (c : MadeColumn). among c.id.0 computed ≡ false → among c.id.0 u.ids ≡ true) columns (computed_columns cs)
      (each_so _ _ (λ c inside out. inside) columns rows.listed) (each_so _ _ (λ c inside out. absurd (both_ways (among c.id.0 computed) inside out)) (computed_columns cs) (all_listed (computed_columns cs))) in
      sure_then (sure_gather (RowFits T (ids_of refs)) (map (project_row tables params p (ids_of refs) cs u.ids slots) u.rows)
      (each_sure (RowFits T (ids_of refs)) (RowFits T u.ids) (project_row tables params p (ids_of refs) cs u.ids slots)
      (λ row row_fit. sure_then (gather_fits (map T computed) _
      (computed_operands (over sight columns) (within slots u.ids row) (over_agrees T sight columns agree own) (over_fits T sight columns slots u.ids row agree own rows.listed fit row_fit) cs each))
      (λ made made_fit. sure_gives _ (row_listed T u.ids row computed made row_fit made_fit refs (columns ++ computed_columns cs) stand seen))) u.rows rows.rows))
      (λ given given_fit. sure_gives _ (record { rows = given_fit; listed = listed_among refs (columns ++ computed_columns cs) }))
