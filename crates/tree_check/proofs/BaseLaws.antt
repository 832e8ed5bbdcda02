-- Each tree is a base tree.
use Rattle.std.proofs.Common.{◌≡◌, ℕ, zero, suc, ◌≤◌, Bool, true, false, ◌&&◌, List, [], ◌∷◌, ◌++◌, map, None, Some, refl, sym, ap, ◌∙◌, arith}
use Rattle.resolved_ast.specs.declared.rex.Compute.{Compute}
use Rattle.resolved_ast.specs.declared.rex.Rex.{Rex, out-Rex, roll-out-Rex, map-Rex, size-Rex, fold-Rex, fold-roll-Rex}
use Rattle.resolved_ast.specs.declared.rex.Rex.TheOpen.{Rex-F, Scan-F}
use Rattle.resolved_ast.specs.declared.rex.Rex.TheOpen as t
use Rattle.resolved_ast.specs.declared.scan.Cte.{Cte}
use Rattle.resolved_ast.specs.declared.scan.Scan.{Scan, out-Scan, roll-out-Scan, map-Scan, size-Scan, fold-roll-Scan}
use Rattle.resolved_ast.specs.Fitting.{base_rex, base_scan, is_base}
use Rattle.resolved_ast.specs.Parts.{exprs_of, scans_of, all_so}
use Rattle.resolved_ast.proofs.Smaller.{RexBelow, ScanBelow, smaller_rex, smaller_scan, some_rex, some_scan}

-- the same of an expression
unfoldable is_base_rex : Rex → Bool
is_base_rex = fold-Rex Bool Bool base_rex base_scan

both_so : (a b : Bool) → a ≡ true → b ≡ true → (a && b) ≡ true
both_so a b x y = ap (λ c. c && b) x ∙ y

one_so : (a : Bool) → a ≡ true → (a && true) ≡ true
one_so a x = ap (λ c. c && true) x

so_append : (xs ys : List Bool) → all_so xs ≡ true → all_so ys ≡ true → all_so (xs ++ ys) ≡ true
so_append [] ys x y = y
so_append (true ∷ xs) ys x y = so_append xs ys x y
so_append (false ∷ xs) ys x y = x

module _ {X Y : Type 0} (f : X → Rex) (h : Y → Scan) (rex_so : (x : X) → is_base_rex (f x) ≡ true) (scan_so : (y : Y) → is_base (h y) ≡ true) where
  abbrev compute : Compute X → Compute Rex
  compute c = record { column = c.column; expr = f c.expr }

  abbrev based_compute : Compute Rex → Compute Bool
  based_compute c = record { column = c.column; expr = is_base_rex c.expr }

  abbrev cte : Cte Y → Cte Scan
  cte c = record { number = c.number; columns = c.columns; scan = h c.scan }

  abbrev based_cte : Cte Scan → Cte Bool
  based_cte c = record { number = c.number; columns = c.columns; scan = is_base c.scan }

  each_so : (xs : List X) → all_so (map is_base_rex (map f xs)) ≡ true
  each_so [] = refl
  each_so (x ∷ xs) = both_so (is_base_rex (f x)) (all_so (map is_base_rex (map f xs))) (rex_so x) (each_so xs)

  exprs_so : (cs : List (Compute X)) → all_so (exprs_of (map based_compute (map compute cs))) ≡ true
  exprs_so [] = refl
  exprs_so (c ∷ cs) = both_so (is_base_rex (f c.expr)) (all_so (exprs_of (map based_compute (map compute cs)))) (rex_so c.expr) (exprs_so cs)

  scans_so : (cs : List (Cte Y)) → all_so (scans_of (map based_cte (map cte cs))) ≡ true
  scans_so [] = refl
  scans_so (c ∷ cs) = both_so (is_base (h c.scan)) (all_so (scans_of (map based_cte (map cte cs)))) (scan_so c.scan) (scans_so cs)

  rex_so_by : (z : Rex-F X Y) → base_rex (map-Rex Rex Scan Bool Bool is_base_rex is_base (map-Rex X Y Rex Scan f h z)) ≡ true
  rex_so_by (t.Literal value ty) = refl
  rex_so_by (t.Parameter name ty) = refl
  rex_so_by (t.Column column ty) = refl
  rex_so_by (t.Outer column ty) = refl
  rex_so_by (t.Call signature ty arguments) = each_so arguments
  rex_so_by (t.SafeCall signature ty arguments) = each_so arguments
  rex_so_by (t.Cast ty expr) = one_so _ (rex_so expr)
  rex_so_by (t.SafeCast ty expr) = one_so _ (rex_so expr)
  rex_so_by (t.If ty operands) = each_so operands
  rex_so_by (t.Case ty operands) = each_so operands
  rex_so_by (t.Coalesce ty operands) = each_so operands
  rex_so_by (t.And ty operands) = each_so operands
  rex_so_by (t.Or ty operands) = each_so operands
  rex_so_by (t.IfError ty operands) = each_so operands
  rex_so_by (t.IsError ty operands) = each_so operands
  rex_so_by (t.NullIfError ty operands) = each_so operands
  rex_so_by (t.Raise ty operands) = each_so operands
  rex_so_by (t.InList search list) = both_so _ _ (rex_so search) (each_so list)
  rex_so_by (t.InArray search array) = both_so _ _ (rex_so search) (one_so _ (rex_so array))
  rex_so_by (t.Let ty bindings expr) = so_append (exprs_of (map based_compute (map compute bindings))) (is_base_rex (f expr) ∷ []) (exprs_so bindings) (one_so _ (rex_so expr))
  rex_so_by (t.MakeArray ty parts) = each_so parts
  rex_so_by (t.MakeStruct ty parts) = each_so parts
  rex_so_by (t.Field place ty expr) = one_so _ (rex_so expr)
  rex_so_by (t.Index form ty array index) = both_so _ _ (rex_so array) (one_so _ (rex_so index))
  rex_so_by (t.Scalar ty column outer scan) = one_so _ (scan_so scan)
  rex_so_by (t.ArrayOf ty column outer scan) = one_so _ (scan_so scan)
  rex_so_by (t.Exists ty outer scan) = one_so _ (scan_so scan)
  rex_so_by (t.InQuery ty column outer search scan) = both_so _ _ (rex_so search) (one_so _ (scan_so scan))

  scan_so_by : (z : Scan-F X Y) → base_scan (map-Scan Rex Scan Bool Bool is_base_rex is_base (map-Scan X Y Rex Scan f h z)) ≡ true
  scan_so_by t.Single = refl
  scan_so_by (t.Table name number columns) = refl
  scan_so_by (t.With ctes scan) = so_append (scans_of (map based_cte (map cte ctes))) (is_base (h scan) ∷ []) (scans_so ctes) (one_so _ (scan_so scan))
  scan_so_by (t.CteRef number columns) = refl
  scan_so_by (t.Unnest kind element offset scan array None) = both_so _ _ (scan_so scan) (one_so _ (rex_so array))
  scan_so_by (t.Unnest kind element offset scan array (Some x)) = both_so _ _ (scan_so scan) (both_so _ _ (rex_so array) (one_so _ (rex_so x)))
  scan_so_by (t.Join kind left right None) = both_so _ _ (scan_so left) (one_so _ (scan_so right))
  scan_so_by (t.Join kind left right (Some x)) = both_so _ _ (scan_so left) (both_so _ _ (scan_so right) (one_so _ (rex_so x)))
  scan_so_by (t.Filter scan condition) = both_so _ _ (scan_so scan) (one_so _ (rex_so condition))
  scan_so_by (t.Project columns scan computed) = both_so _ _ (scan_so scan) (exprs_so computed)

based_rex : (x : Rex) → is_base_rex x ≡ base_rex (map-Rex Rex Scan Bool Bool is_base_rex is_base (out-Rex x))
unfolding is_base_rex is_base
based_rex x = ap is_base_rex (sym (roll-out-Rex x)) ∙ fold-roll-Rex Bool Bool base_rex base_scan (out-Rex x)

based_scan : (x : Scan) → is_base x ≡ base_scan (map-Scan Rex Scan Bool Bool is_base_rex is_base (out-Scan x))
unfolding is_base_rex is_base
based_scan x = ap is_base (sym (roll-out-Scan x)) ∙ fold-roll-Scan Bool Bool base_rex base_scan (out-Scan x)

mutual
  rex_at : (n : ℕ) (x : Rex) → size-Rex x ≤ n → is_base_rex x ≡ true
  rex_at zero x le = absurd (omega (arith, some_rex x))
  rex_at (suc n) x le =
      let y = smaller_rex x (size-Rex x) (omega arith) in
      based_rex x ∙ ap (λ z. base_rex (map-Rex Rex Scan Bool Bool is_base_rex is_base z)) (sym y.1)
      ∙ rex_so_by (λ (c : RexBelow (size-Rex x)). c.0) (λ (c : ScanBelow (size-Rex x)). c.0) (λ c. rex_at n c.0 (omega (arith, c.1))) (λ c. scan_at n c.0 (omega (arith, c.1))) y.0

  scan_at : (n : ℕ) (x : Scan) → size-Scan x ≤ n → is_base x ≡ true
  scan_at zero x le = absurd (omega (arith, some_scan x))
  scan_at (suc n) x le =
      let y = smaller_scan x (size-Scan x) (omega arith) in
      based_scan x ∙ ap (λ z. base_scan (map-Scan Rex Scan Bool Bool is_base_rex is_base z)) (sym y.1)
      ∙ scan_so_by (λ (c : RexBelow (size-Scan x)). c.0) (λ (c : ScanBelow (size-Scan x)). c.0) (λ c. rex_at n c.0 (omega (arith, c.1))) (λ c. scan_at n c.0 (omega (arith, c.1))) y.0

-- no node is of a kind that a base tree hasn't
pub each_is_base : (x : Scan) → is_base x ≡ true
each_is_base x = scan_at (size-Scan x) x (omega arith)
