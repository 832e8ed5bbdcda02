-- What a tree means, one level at a time, and that a node means no more where its parts mean no more.
use Rattle.std.proofs.Common.{◌≡◌, List, refl, sym, subst}
use Rattle.sql_types.specs.declared.rows.Param.{Param}
use Rattle.sql_types.specs.Outcome.{Below}
use Rattle.resolved_ast.specs.declared.rex.Rex.{Rex, out-Rex, map-Rex}
use Rattle.resolved_ast.specs.declared.rex.Rex.TheOpen.{Rex-F, Scan-F}
use Rattle.resolved_ast.specs.declared.scan.Scan.{Scan, out-Scan, map-Scan}
use Rattle.resolved_ast.specs.Columns.{rex_type}
use Rattle.resolved_ast.specs.Meanings.{TableRows, Means, rex_means, scan_means, RexOutcome, ScanOutcome, parts_of, RexCase, ScanCase, RexMeans, ScanMeans}
use Rattle.resolved_ast.specs.Slots.{Slots}
use Rattle.resolved_ast.specs.Tie.{tied}
use Rattle.resolved_ast.proofs.Steps.{rex_means_le, scan_means_le}
use Rattle.resolved_ast.proofs.Tied.{RexMono, ScanMono, opens_rex, closes_rex, opens_scan, closes_scan}

module _ (tables : TableRows) (params : List Param) where
  rex_mono : RexMono RexOutcome ScanOutcome (RexCase tables params) (ScanCase tables params)
  rex_mono X Y f g p q h k z at v =
      rex_means_le tables params f f g g (parts_of p) (parts_of q) (λ x slots o. h x (slots, o)) (λ y slots o. k y (slots, o)) (λ x. refl) z at.0 at.1 v

  scan_mono : ScanMono RexOutcome ScanOutcome (RexCase tables params) (ScanCase tables params)
  scan_mono X Y f g p q h k z at v =
      scan_means_le tables params f f g g (parts_of p) (parts_of q) (λ x slots o. h x (slots, o)) (λ y slots o. k y (slots, o)) (λ x. refl) z at.0 at.1 v

  -- what all trees mean
  abbrev pub meanings : Means
  meanings = parts_of (tied RexOutcome ScanOutcome (RexCase tables params) (ScanCase tables params))

  -- a part means what its node means over its parts
  pub rex_opens : (x : Rex) (slots : Slots) → Below (RexMeans tables params x slots) (rex_means tables params meanings (out-Rex x) slots)
  rex_opens x slots o m = opens_rex RexOutcome ScanOutcome (RexCase tables params) (ScanCase tables params) rex_mono scan_mono x (slots, o) m

  pub rex_closes : (x : Rex) (slots : Slots) → Below (rex_means tables params meanings (out-Rex x) slots) (RexMeans tables params x slots)
  rex_closes x slots o m = closes_rex RexOutcome ScanOutcome (RexCase tables params) (ScanCase tables params) rex_mono scan_mono x (slots, o) m

  pub scan_opens : (x : Scan) (slots : Slots) → Below (ScanMeans tables params x slots) (scan_means tables params meanings (out-Scan x) slots)
  scan_opens x slots o m = opens_scan RexOutcome ScanOutcome (RexCase tables params) (ScanCase tables params) rex_mono scan_mono x (slots, o) m

  pub scan_closes : (x : Scan) (slots : Slots) → Below (scan_means tables params meanings (out-Scan x) slots) (ScanMeans tables params x slots)
  scan_closes x slots o m = closes_scan RexOutcome ScanOutcome (RexCase tables params) (ScanCase tables params) rex_mono scan_mono x (slots, o) m

  -- ---- congruence: a new node of the same form as an old one, over new parts that mean no more than the old ones

  module _ {X Y : Type 0} (f g : X → Rex) (h k : Y → Scan)
      (rex_le : (x : X) (slots : Slots) → Below (RexMeans tables params (f x) slots) (RexMeans tables params (g x) slots))
      (scan_le : (y : Y) (slots : Slots) → Below (ScanMeans tables params (h y) slots) (ScanMeans tables params (k y) slots))
      (types : (x : X) → rex_type (f x) ≡ rex_type (g x)) where
    pub rex_congruent : (z : Rex-F X Y) (new old : Rex) → out-Rex new ≡ map-Rex X Y Rex Scan f h z → out-Rex old ≡ map-Rex X Y Rex Scan g k z →
        (slots : Slots) → Below (RexMeans tables params new slots) (RexMeans tables params old slots)
    rex_congruent z new old is was slots o m =
        rex_closes old slots o (subst (λ y. rex_means tables params meanings y slots o) (sym was)
        (rex_means_le tables params f g h k meanings meanings rex_le scan_le types z slots o (subst (λ y. rex_means tables params meanings y slots o) is (rex_opens new slots o m))))

    pub scan_congruent : (z : Scan-F X Y) (new old : Scan) → out-Scan new ≡ map-Scan X Y Rex Scan f h z → out-Scan old ≡ map-Scan X Y Rex Scan g k z →
        (slots : Slots) → Below (ScanMeans tables params new slots) (ScanMeans tables params old slots)
    scan_congruent z new old is was slots o m =
        scan_closes old slots o (subst (λ y. scan_means tables params meanings y slots o) (sym was)
        (scan_means_le tables params f g h k meanings meanings rex_le scan_le types z slots o (subst (λ y. scan_means tables params meanings y slots o) is (scan_opens new slots o m))))
