-- Whole trees: the rows of a valid tree fit the columns of its answer.
use Rattle.std.proofs.Common.{◌≡◌, ℕ, true, List, [], ◌∷◌, map, Option, None, Some, Result, Ok, Err, refl}
use Rattle.std.specs.List.{list_all}
use Rattle.sql_types.specs.declared.rows.Param.{Param}
use Rattle.sql_types.specs.declared.sql_type.Named.{Named}
use Rattle.sql_types.specs.declared.sql_type.SqlType.{SqlType}
use Rattle.sql_types.specs.declared.sql_type.SqlType.TheVariants as ty
use Rattle.sql_types.specs.Fits.{fits_row}
use Rattle.sql_types.specs.Joined.{Row}
use Rattle.sql_types.specs.Parted.{Each}
use Rattle.sql_types.specs.SameType.{same_type}
use Rattle.resolved_ast.specs.declared.column.MadeColumn.{MadeColumn}
use Rattle.resolved_ast.specs.declared.flaw.Flaw.{Flaw}
use Rattle.resolved_ast.specs.declared.scan.Output.{Output}
use Rattle.resolved_ast.specs.declared.scan.Tree.{Tree}
use Rattle.resolved_ast.specs.Columns.{columns}
use Rattle.resolved_ast.specs.Fitting.{SlotsFit, Fitting}
use Rattle.resolved_ast.specs.Flaws.{Before, all_outputs, ScanWalk, no_sight, nothing_before, tree_walk, Valid}
use Rattle.resolved_ast.specs.Meanings.{TableRows, TreeMeans}
use Rattle.resolved_ast.specs.Slots.{Slots, bound, picked}
use Rattle.resolved_ast.proofs.FitLaws.{first_of, second_of}
use Rattle.resolved_ast.proofs.MeaningLaws.{meanings}
use Rattle.tree_fits.proofs.WalkTypes.{Typing, Claims, claims_none, claims_more, claims_node}
use Rattle.tree_fits.proofs.Lists.{and_so, all_of_each, each_mapped}
use Rattle.tree_fits.proofs.RowFits.{RowFits}
use Rattle.tree_fits.proofs.ColumnsSeen.{such_column}
use Rattle.tree_fits.proofs.Sure.{Sure, sure_value, sure_gives, sure_then}
use Rattle.tree_fits.proofs.TakenColumns.{Among, each_among, at_number}
use Rattle.tree_fits.proofs.FittingParts.{of_type}
use Rattle.tree_fits.proofs.FittingCalls.{AnswersFit}
use Rattle.tree_fits.proofs.FittingFolds.{fitting_taken}
use Rattle.tree_fits.proofs.NodeFacts.{ScanOk}
use Rattle.tree_fits.proofs.PartFits.{scan_claims_all}

-- the columns of the answer, by name and type
abbrev answer : List Output → List (Named SqlType)
answer outputs = map (λ (o : Output). record { name = o.name; ty = o.ty }) outputs

answer_fits : (T : Typing) (ids : List ℕ) (row : Row) (made : List MadeColumn) (outputs : List Output) → Each (Among T ids) made → RowFits T ids row → all_outputs outputs made ≡ true →
    fits_row (answer outputs) (picked (map (λ o. o.column.id.0) outputs) (bound ids row [])) ≡ true
answer_fits T ids row made [] each fit seen = refl
answer_fits T ids row made (o ∷ outputs) each fit seen =
    let found = such_column (Among T ids) o.column (same_type o.ty) made each (first_of _ _ seen) in
    and_so _ _ (of_type o.ty found.0.ty _ found.3 (at_number T ids row [] o.column.id.0 found.0 found.2 found.1 fit)) (answer_fits T ids row made outputs each fit (second_of _ _ seen))

-- a tree sees nothing, and so all slots fit
nothing_seen : (slots : Slots) → SlotsFit no_sight slots
nothing_seen slots = record { values = tt; ctes = λ number types rows is has. cc }

-- what the walk over a valid tree ends with
walked : (tree : Tree) (r : Result Before Flaw) → tree_walk tree nothing_before ≡ r → ◌≡◌ {A = Option Flaw} (elim r [ Ok after ↦ None | Err flaw ↦ Some flaw ]) None → (after : Before) × (tree_walk tree nothing_before ≡ Ok after)
walked tree (Ok after) is valid = (after, is)
walked tree (Err flaw) is valid = cc

module _ (answers : AnswersFit) (tables : TableRows) (params : List Param) where
  abbrev TreeOk : Tree → Typing → Type 0
  TreeOk tree T = (all_outputs tree.outputs (columns tree.scan) ≡ true) × ScanOk (meanings tables params) T no_sight tree.scan

  tree_claims : (tree : Tree) → Fitting tree tables params → Claims (tree_walk tree) (TreeOk tree)
  tree_claims tree fitting =
      claims_node [] (ScanWalk tree.scan no_sight ∷ []) (λ T o made ok. (o.seen, ok.0))
      (claims_more [] (scan_claims_all answers tables params tree.scan (fitting_taken tables params tree.scan fitting) no_sight) claims_none)

  rows_fit : (tree : Tree) (T : Typing) (slots : Slots) → TreeOk tree T → Sure (TreeMeans tables params tree slots) (λ rows. list_all (fits_row (answer tree.outputs)) rows ≡ true)
  rows_fit tree T slots ok =
      sure_then (ok.1.gives tt slots (nothing_seen slots)) (λ u fit. sure_gives _ (all_of_each (fits_row (answer tree.outputs)) _
      (each_mapped (λ row. picked (map (λ (o : Output). o.column.id.0) tree.outputs) (bound u.ids row [])) (RowFits T u.ids) (λ row. fits_row (answer tree.outputs) row ≡ true)
      (λ row so. answer_fits T u.ids row (columns tree.scan) tree.outputs (each_among T u.ids (columns tree.scan) ok.1.agrees fit.listed) so ok.0) u.rows fit.rows)))

  pub tree_fits : (tree : Tree) (slots : Slots) (rows : List Row) → Valid tree → Fitting tree tables params → TreeMeans tables params tree slots (Ok rows) → list_all (fits_row (answer tree.outputs)) rows ≡ true
  tree_fits tree slots rows valid fitting given =
      let ended = walked tree (tree_walk tree nothing_before) refl valid in
      let typing = (tree_claims tree fitting nothing_before ended.0 ended.1).types (λ n. ty.Int64) in
      sure_value (rows_fit tree typing.0 slots (typing.2 typing.0 (λ n h. refl))) rows given
