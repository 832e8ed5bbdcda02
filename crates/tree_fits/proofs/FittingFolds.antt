-- Whether tables and parameters fit a tree, one level at a time.
use Rattle.std.proofs.Common.{◌≡◌, Bool, true, List, ap, sym, ◌∙◌}
use Rattle.sql_types.specs.declared.rows.Param.{Param}
use Rattle.resolved_ast.specs.declared.rex.Rex.{Rex, out-Rex, roll-out-Rex, map-Rex, fold-Rex, fold-roll-Rex}
use Rattle.resolved_ast.specs.declared.scan.Scan.{Scan, out-Scan, roll-out-Scan, map-Scan, fold-Scan, fold-roll-Scan}
use Rattle.resolved_ast.specs.Fitting.{fitting_rex, fitting_scan, is_fitting}
use Rattle.resolved_ast.specs.Meanings.{TableRows}

module _ (tables : TableRows) (params : List Param) where
  unfoldable pub RexTaken : Rex → Bool
  RexTaken = fold-Rex Bool Bool (fitting_rex tables params) (fitting_scan tables params)

  unfoldable pub ScanTaken : Scan → Bool
  ScanTaken = fold-Scan Bool Bool (fitting_rex tables params) (fitting_scan tables params)

  pub rex_taken : (x : Rex) → RexTaken x ≡ fitting_rex tables params (map-Rex Rex Scan Bool Bool RexTaken ScanTaken (out-Rex x))
  unfolding RexTaken ScanTaken
  rex_taken x = ap RexTaken (sym (roll-out-Rex x)) ∙ fold-roll-Rex Bool Bool (fitting_rex tables params) (fitting_scan tables params) (out-Rex x)

  pub scan_taken : (x : Scan) → ScanTaken x ≡ fitting_scan tables params (map-Scan Rex Scan Bool Bool RexTaken ScanTaken (out-Scan x))
  unfolding RexTaken ScanTaken
  scan_taken x = ap ScanTaken (sym (roll-out-Scan x)) ∙ fold-roll-Scan Bool Bool (fitting_rex tables params) (fitting_scan tables params) (out-Scan x)

  pub fitting_taken : (x : Scan) → is_fitting tables params x ≡ true → ScanTaken x ≡ true
  unfolding ScanTaken is_fitting
  fitting_taken x fit = fit
