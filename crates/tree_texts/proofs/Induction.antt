-- What holds of a part where it holds of the parts below it holds of each part.
use Rattle.std.proofs.Common.{List, [], ◌∷◌, ◌++◌, map, None, Some, sym, subst}
use Rattle.resolved_ast.specs.declared.rex.Compute.{Compute}
use Rattle.resolved_ast.specs.declared.rex.Rex.{Rex, map-Rex, roll-Rex, out-roll-Rex}
use Rattle.resolved_ast.specs.declared.rex.Rex.TheOpen.{Rex-F, Scan-F}
use Rattle.resolved_ast.specs.declared.rex.Rex.TheOpen as t
use Rattle.resolved_ast.specs.declared.scan.Cte.{Cte}
use Rattle.resolved_ast.specs.declared.scan.Scan.{Scan, map-Scan, roll-Scan, out-roll-Scan, ind-Scan}
use Rattle.resolved_ast.specs.declared.scan.Tree.{Tree}
use Rattle.tree_texts.proofs.Joins.{Each}
use Rattle.tree_texts.proofs.Shapes.{Part, of_rex, of_scan, of_compute, of_cte, of_tree, rex_below, scan_below, below}

module _ (P : Part → Type 0) (step : (p : Part) → Each P (below p) → P p) where
  abbrev WithRex : Type 0
  WithRex = (x : Rex) × P (of_rex x)

  abbrev WithScan : Type 0
  WithScan = (x : Scan) × P (of_scan x)

  abbrev bare_rex : WithRex → Rex
  bare_rex e = e.0

  abbrev bare_scan : WithScan → Scan
  bare_scan e = e.0

  abbrev bare_compute : Compute WithRex → Compute Rex
  bare_compute c = record { column = c.column; expr = c.expr.0 }

  abbrev bare_cte : Cte WithScan → Cte Scan
  bare_cte c = record { number = c.number; columns = c.columns; scan = c.scan.0 }

  rexes : (xs : List WithRex) → Each P (map of_rex (map bare_rex xs))
  rexes [] = tt
  rexes (x ∷ xs) = (x.1, rexes xs)

  computed : (c : Compute WithRex) → P (of_compute (bare_compute c))
  computed c = step (of_compute (bare_compute c)) (c.expr.1, tt)

  computes : (cs : List (Compute WithRex)) → Each P (map of_compute (map bare_compute cs))
  computes [] = tt
  computes (c ∷ cs) = (computed c, computes cs)

  computes_then : (cs : List (Compute WithRex)) (x : WithRex) → Each P (map of_compute (map bare_compute cs) ++ of_rex x.0 ∷ [])
  computes_then [] x = (x.1, tt)
  computes_then (c ∷ cs) x = (computed c, computes_then cs x)

  ctes_then : (cs : List (Cte WithScan)) (x : WithScan) → Each P (map of_cte (map bare_cte cs) ++ of_scan x.0 ∷ [])
  ctes_then [] x = (x.1, tt)
  ctes_then (c ∷ cs) x = (step (of_cte (bare_cte c)) (c.scan.1, tt), ctes_then cs x)

  rex_each : (z : Rex-F WithRex WithScan) → Each P (rex_below (map-Rex WithRex WithScan Rex Scan bare_rex bare_scan z))
  rex_each (t.Literal value ty) = tt
  rex_each (t.Parameter name ty) = tt
  rex_each (t.Column column ty) = tt
  rex_each (t.Outer column ty) = tt
  rex_each (t.Call signature ty arguments) = rexes arguments
  rex_each (t.SafeCall signature ty arguments) = rexes arguments
  rex_each (t.Cast ty expr) = (expr.1, tt)
  rex_each (t.SafeCast ty expr) = (expr.1, tt)
  rex_each (t.If ty operands) = rexes operands
  rex_each (t.Case ty operands) = rexes operands
  rex_each (t.Coalesce ty operands) = rexes operands
  rex_each (t.And ty operands) = rexes operands
  rex_each (t.Or ty operands) = rexes operands
  rex_each (t.IfError ty operands) = rexes operands
  rex_each (t.IsError ty operands) = rexes operands
  rex_each (t.NullIfError ty operands) = rexes operands
  rex_each (t.Raise ty operands) = rexes operands
  rex_each (t.InList sought list) = (sought.1, rexes list)
  rex_each (t.InArray sought array) = (sought.1, (array.1, tt))
  rex_each (t.Let ty bindings expr) = computes_then bindings expr
  rex_each (t.MakeArray ty operands) = rexes operands
  rex_each (t.MakeStruct ty operands) = rexes operands
  rex_each (t.Field place ty expr) = (expr.1, tt)
  rex_each (t.Index form ty array index) = (array.1, (index.1, tt))
  rex_each (t.Scalar ty column outer inner) = (inner.1, tt)
  rex_each (t.ArrayOf ty column outer inner) = (inner.1, tt)
  rex_each (t.Exists ty outer inner) = (inner.1, tt)
  rex_each (t.InQuery ty column outer sought inner) = (sought.1, (inner.1, tt))

  scan_each : (z : Scan-F WithRex WithScan) → Each P (scan_below (map-Scan WithRex WithScan Rex Scan bare_rex bare_scan z))
  scan_each t.Single = tt
  scan_each (t.Table name number columns) = tt
  scan_each (t.With ctes inner) = ctes_then ctes inner
  scan_each (t.CteRef number columns) = tt
  scan_each (t.Unnest kind element offset inner array None) = (inner.1, (array.1, tt))
  scan_each (t.Unnest kind element offset inner array (Some condition)) = (inner.1, (array.1, (condition.1, tt)))
  scan_each (t.Join kind left right None) = (left.1, (right.1, tt))
  scan_each (t.Join kind left right (Some condition)) = (left.1, (right.1, (condition.1, tt)))
  scan_each (t.Filter inner condition) = (inner.1, (condition.1, tt))
  scan_each (t.Project columns inner computed) = (inner.1, computes computed)

  rex_rolled : (z : Rex-F Rex Scan) → Each P (rex_below z) → P (of_rex (roll-Rex z))
  rex_rolled z each = step (of_rex (roll-Rex z)) (subst (λ l. Each P (rex_below l)) (sym (out-roll-Rex z)) each)

  scan_rolled : (z : Scan-F Rex Scan) → Each P (scan_below z) → P (of_scan (roll-Scan z))
  scan_rolled z each = step (of_scan (roll-Scan z)) (subst (λ l. Each P (scan_below l)) (sym (out-roll-Scan z)) each)

  pub each_scan : (x : Scan) → P (of_scan x)
  each_scan =
      ind-Scan (λ x. P (of_rex x)) (λ x. P (of_scan x))
      (λ x e is. subst (λ z. P (of_rex (roll-Rex z))) is (rex_rolled (map-Rex WithRex WithScan Rex Scan bare_rex bare_scan e) (rex_each e)))
      (λ x e is. subst (λ z. P (of_scan (roll-Scan z))) is (scan_rolled (map-Scan WithRex WithScan Rex Scan bare_rex bare_scan e) (scan_each e)))

  pub each_tree : (tree : Tree) → P (of_tree tree)
  each_tree tree = step (of_tree tree) (each_scan tree.scan, tt)
