-- Every part of a tree that the walk passes gives what fits, by the size of the part.
use Rattle.std.proofs.Common.{◌≡◌, ℕ, zero, suc, ◌≤◌, Bool, true, List, sym, ap, subst, ◌∙◌, arith}
use Rattle.sql_types.specs.declared.rows.Param.{Param}
use Rattle.resolved_ast.specs.declared.column.MadeColumn.{MadeColumn}
use Rattle.resolved_ast.specs.declared.rex.Rex.{Rex, out-Rex, map-Rex, size-Rex}
use Rattle.resolved_ast.specs.declared.scan.Scan.{Scan, out-Scan, roll-out-Scan, map-Scan, size-Scan, fold-roll-Scan}
use Rattle.resolved_ast.specs.Columns.{columns, scan_columns}
use Rattle.resolved_ast.specs.Fitting.{fitting_rex, fitting_scan}
use Rattle.resolved_ast.specs.Flaws.{Sight, Walks, RexPart, ScanPart, rex_walk, scan_walk, RexWalk, ScanWalk}
use Rattle.resolved_ast.specs.Meanings.{TableRows, ScanMeans}
use Rattle.resolved_ast.proofs.MeaningLaws.{meanings, rex_opens, scan_opens}
use Rattle.resolved_ast.proofs.Smaller.{RexBelow, ScanBelow, smaller_rex, smaller_scan, some_rex, some_scan}
use Rattle.resolved_ast.proofs.WalkLaws.{rex_part, scan_part, walked_rex, walked_scan}
use Rattle.tree_fits.proofs.WalkTypes.{Typing, Agrees, Claims, claims_map}
use Rattle.tree_fits.proofs.RowFits.{TableFits}
use Rattle.tree_fits.proofs.Sure.{Sure, sure_by}
use Rattle.tree_fits.proofs.FittingCalls.{AnswersFit}
use Rattle.tree_fits.proofs.FittingFolds.{RexTaken, ScanTaken, rex_taken, scan_taken}
use Rattle.tree_fits.proofs.NodeFacts.{RexOk, ScanOk, RexNodeOk, ScanNodeOk, node_columns}
use Rattle.tree_fits.proofs.FittingRex.{rex_claims}
use Rattle.tree_fits.proofs.ScanNodes.{scan_claims}

-- a scan's columns, one level at a time
columns_are : (x : Scan) → columns x ≡ node_columns (out-Scan x)
unfolding columns
columns_are x = ap columns (sym (roll-out-Scan x)) ∙ fold-roll-Scan (Unit {0}) (List MadeColumn) (λ rex. tt) scan_columns (out-Scan x)

module _ (answers : AnswersFit) (tables : TableRows) (params : List Param) where
  -- a part means what its node means over its parts
  rex_so : (T : Typing) (sight : Sight) (x : Rex) → RexNodeOk tables params (meanings tables params) T sight (out-Rex x) → RexOk (meanings tables params) T sight x
  rex_so T sight x ok = record { gives = λ agree slots fit. sure_by (λ o m. (ok.gives agree slots fit).every o (rex_opens tables params x slots o m)) }

  scan_so : (T : Typing) (sight : Sight) (x : Scan) → ScanNodeOk tables params (meanings tables params) T sight (out-Scan x) → ScanOk (meanings tables params) T sight x
  scan_so T sight x ok = record {
    agrees = subst (Agrees T) (sym (columns_are x)) ok.agrees;
    gives = λ agree slots fit. subst (λ made. Sure (ScanMeans tables params x slots) (TableFits T made)) (sym (columns_are x))
        (sure_by (λ o m. (ok.gives agree slots fit).every o (scan_opens tables params x slots o m)));
  }

  mutual
    rex_at : (n : ℕ) (x : Rex) → size-Rex x ≤ n → RexTaken tables params x ≡ true → (sight : Sight) → Claims (RexWalk x sight) (λ T. RexOk (meanings tables params) T sight x)
    rex_at zero x le taken sight = absurd (omega (arith, some_rex x))
    rex_at (suc n) x le taken sight =
        let y = smaller_rex x (size-Rex x) (omega arith) in
        claims_map (λ T ok. rex_so T sight x ok) (subst (λ (w : Walks). Claims (w sight) (λ T. RexNodeOk tables params (meanings tables params) T sight (out-Rex x))) (sym (walked_rex x))
        (subst (λ z. Claims (rex_walk (map-Rex Rex Scan RexPart ScanPart rex_part scan_part z) sight) (λ T. RexNodeOk tables params (meanings tables params) T sight z)) y.1
        (rex_claims answers tables params (meanings tables params) (λ (c : RexBelow (size-Rex x)). c.0) (λ (c : ScanBelow (size-Rex x)). c.0)
        (λ c fit s. rex_at n c.0 (omega (arith, c.1)) fit s) (λ c fit s. scan_at n c.0 (omega (arith, c.1)) fit s) y.0 sight
        (subst (λ z. fitting_rex tables params (map-Rex Rex Scan Bool Bool (RexTaken tables params) (ScanTaken tables params) z) ≡ true) (sym y.1) (sym (rex_taken tables params x) ∙ taken)))))

    scan_at : (n : ℕ) (x : Scan) → size-Scan x ≤ n → ScanTaken tables params x ≡ true → (sight : Sight) → Claims (ScanWalk x sight) (λ T. ScanOk (meanings tables params) T sight x)
    scan_at zero x le taken sight = absurd (omega (arith, some_scan x))
    scan_at (suc n) x le taken sight =
        let y = smaller_scan x (size-Scan x) (omega arith) in
        claims_map (λ T ok. scan_so T sight x ok) (subst (λ (w : Walks). Claims (w sight) (λ T. ScanNodeOk tables params (meanings tables params) T sight (out-Scan x))) (sym (walked_scan x))
        (subst (λ z. Claims (scan_walk (map-Scan Rex Scan RexPart ScanPart rex_part scan_part z) sight) (λ T. ScanNodeOk tables params (meanings tables params) T sight z)) y.1
        (scan_claims tables params (meanings tables params) (λ (c : RexBelow (size-Scan x)). c.0) (λ (c : ScanBelow (size-Scan x)). c.0)
        (λ c fit s. rex_at n c.0 (omega (arith, c.1)) fit s) (λ c fit s. scan_at n c.0 (omega (arith, c.1)) fit s) y.0 sight
        (subst (λ z. fitting_scan tables params (map-Scan Rex Scan Bool Bool (RexTaken tables params) (ScanTaken tables params) z) ≡ true) (sym y.1) (sym (scan_taken tables params x) ∙ taken)))))

  -- a whole scan
  pub scan_claims_all : (x : Scan) → ScanTaken tables params x ≡ true → (sight : Sight) → Claims (ScanWalk x sight) (λ T. ScanOk (meanings tables params) T sight x)
  scan_claims_all x taken sight = scan_at (size-Scan x) x (omega arith) taken sight
