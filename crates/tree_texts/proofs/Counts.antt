-- Where each table of a tree has the number of its name, so has each table of its parts.
use Rattle.std.proofs.Common.{◌≡◌, ℕ, Bool, true, List, [], ◌∷◌, ◌++◌, map, None, Some, sym, ap, ◌∙◌}
use Rattle.std.proofs.lemmas.Bool.{and_parts}
use Rattle.std.proofs.lemmas.Bool.Decides.{Decides-eqb}
use Rattle.resolved_ast.specs.declared.rex.Compute.{Compute}
use Rattle.resolved_ast.specs.declared.rex.Rex.{Rex, out-Rex, roll-out-Rex, map-Rex, fold-Rex, fold-roll-Rex}
use Rattle.resolved_ast.specs.declared.rex.Rex.TheOpen.{Rex-F, Scan-F}
use Rattle.resolved_ast.specs.declared.rex.Rex.TheOpen as t
use Rattle.resolved_ast.specs.declared.scan.Cte.{Cte}
use Rattle.resolved_ast.specs.declared.scan.Scan.{Scan, out-Scan, roll-out-Scan, map-Scan, fold-roll-Scan}
use Rattle.resolved_ast.specs.Parts.{rex_parts, scan_parts, all_so, exprs_of, scans_of}
use Rattle.tree_texts.specs.Numbered.{numbered_rex, numbered_scan, is_numbered}
use Rattle.tree_texts.proofs.Joins.{Each}
use Rattle.tree_texts.proofs.Shapes.{Part, of_rex, of_scan, of_compute, of_cte, of_tree, rex_below, scan_below, below}
use Rattle.tree_texts.proofs.Wholes.{right_scan}

-- what holds of each part
abbrev So : Bool → Type 0
So b = b ≡ true

each_so : (bs : List Bool) → all_so bs ≡ true → Each So bs
each_so [] so = tt
each_so (b ∷ bs) so = let both = and_parts b (all_so bs) so in (both.0, each_so bs both.1)

module _ (numbers : List ℕ → ℕ) where
  pub is_numbered_rex : Rex → Bool
  is_numbered_rex = fold-Rex Bool Bool (numbered_rex numbers) (numbered_scan numbers)

  rex_opens : (x : Rex) → is_numbered_rex x ≡ numbered_rex numbers (map-Rex Rex Scan Bool Bool is_numbered_rex (is_numbered numbers) (out-Rex x))
  unfolding is_numbered_rex is_numbered
  rex_opens x = ap is_numbered_rex (sym (roll-out-Rex x)) ∙ fold-roll-Rex Bool Bool (numbered_rex numbers) (numbered_scan numbers) (out-Rex x)

  scan_opens : (x : Scan) → is_numbered numbers x ≡ numbered_scan numbers (map-Scan Rex Scan Bool Bool is_numbered_rex (is_numbered numbers) (out-Scan x))
  unfolding is_numbered_rex is_numbered
  scan_opens x = ap (is_numbered numbers) (sym (roll-out-Scan x)) ∙ fold-roll-Scan Bool Bool (numbered_rex numbers) (numbered_scan numbers) (out-Scan x)

  abbrev pub Counted : Part → Type 0
  Counted (of_rex x) = is_numbered_rex x ≡ true
  Counted (of_scan x) = is_numbered numbers x ≡ true
  Counted (of_compute c) = is_numbered_rex c.expr ≡ true
  Counted (of_cte c) = is_numbered numbers c.scan ≡ true
  Counted (of_tree tree) = is_numbered numbers tree.scan ≡ true

  abbrev counted_compute : Compute Rex → Compute Bool
  counted_compute c = record { column = c.column; expr = is_numbered_rex c.expr }

  abbrev counted_cte : Cte Scan → Cte Bool
  counted_cte c = record { number = c.number; columns = c.columns; scan = is_numbered numbers c.scan }

  rexes : (xs : List Rex) → Each So (map is_numbered_rex xs) → Each Counted (map of_rex xs)
  rexes [] so = tt
  rexes (x ∷ xs) so = (so.0, rexes xs so.1)

  computes : (cs : List (Compute Rex)) → Each So (exprs_of (map counted_compute cs)) → Each Counted (map of_compute cs)
  computes [] so = tt
  computes (c ∷ cs) so = (so.0, computes cs so.1)

  computes_then : (cs : List (Compute Rex)) (x : Rex) → Each So (exprs_of (map counted_compute cs) ++ is_numbered_rex x ∷ []) → Each Counted (map of_compute cs ++ of_rex x ∷ [])
  computes_then [] x so = so
  computes_then (c ∷ cs) x so = (so.0, computes_then cs x so.1)

  ctes_then : (cs : List (Cte Scan)) (x : Scan) → Each So (scans_of (map counted_cte cs) ++ is_numbered numbers x ∷ []) → Each Counted (map of_cte cs ++ of_scan x ∷ [])
  ctes_then [] x so = so
  ctes_then (c ∷ cs) x so = (so.0, ctes_then cs x so.1)

  scan_so : (z : Scan-F Bool Bool) → numbered_scan numbers z ≡ true → Each So (scan_parts z)
  scan_so (t.Table name number columns) so = tt
  scan_so other so = each_so (scan_parts other) so

  rex_counted : (z : Rex-F Rex Scan) → Each So (rex_parts (map-Rex Rex Scan Bool Bool is_numbered_rex (is_numbered numbers) z)) → Each Counted (rex_below z)
  rex_counted (t.Literal value ty) so = tt
  rex_counted (t.Parameter name ty) so = tt
  rex_counted (t.Column column ty) so = tt
  rex_counted (t.Outer column ty) so = tt
  rex_counted (t.Call signature ty arguments) so = rexes arguments so
  rex_counted (t.SafeCall signature ty arguments) so = rexes arguments so
  rex_counted (t.Cast ty expr) so = (so.0, tt)
  rex_counted (t.SafeCast ty expr) so = (so.0, tt)
  rex_counted (t.If ty operands) so = rexes operands so
  rex_counted (t.Case ty operands) so = rexes operands so
  rex_counted (t.Coalesce ty operands) so = rexes operands so
  rex_counted (t.And ty operands) so = rexes operands so
  rex_counted (t.Or ty operands) so = rexes operands so
  rex_counted (t.IfError ty operands) so = rexes operands so
  rex_counted (t.IsError ty operands) so = rexes operands so
  rex_counted (t.NullIfError ty operands) so = rexes operands so
  rex_counted (t.Raise ty operands) so = rexes operands so
  rex_counted (t.InList sought list) so = rexes (sought ∷ list) so
  rex_counted (t.InArray sought array) so = (so.0, (so.1.0, tt))
  rex_counted (t.Let ty bindings expr) so = computes_then bindings expr so
  rex_counted (t.MakeArray ty operands) so = rexes operands so
  rex_counted (t.MakeStruct ty operands) so = rexes operands so
  rex_counted (t.Field place ty expr) so = (so.0, tt)
  rex_counted (t.Index form ty array index) so = (so.0, (so.1.0, tt))
  rex_counted (t.Scalar ty column outer inner) so = (so.0, tt)
  rex_counted (t.ArrayOf ty column outer inner) so = (so.0, tt)
  rex_counted (t.Exists ty outer inner) so = (so.0, tt)
  rex_counted (t.InQuery ty column outer sought inner) so = (so.0, (so.1.0, tt))

  scan_counted : (z : Scan-F Rex Scan) → Each So (scan_parts (map-Scan Rex Scan Bool Bool is_numbered_rex (is_numbered numbers) z)) → Each Counted (scan_below z)
  scan_counted t.Single so = tt
  scan_counted (t.Table name number columns) so = tt
  scan_counted (t.With ctes inner) so = ctes_then ctes inner so
  scan_counted (t.CteRef number columns) so = tt
  scan_counted (t.Unnest kind element offset inner array None) so = (so.0, (so.1.0, tt))
  scan_counted (t.Unnest kind element offset inner array (Some condition)) so = (so.0, (so.1.0, (so.1.1.0, tt)))
  scan_counted (t.Join kind left right None) so = (so.0, (so.1.0, tt))
  scan_counted (t.Join kind left right (Some condition)) so = (so.0, (so.1.0, (so.1.1.0, tt)))
  scan_counted (t.Filter inner condition) so = (so.0, (so.1.0, tt))
  scan_counted (t.Project columns inner computed) so = (so.0, computes computed so.1)

  pub counted_below : (p : Part) → Counted p → Each Counted (below p)
  counted_below (of_rex x) so =
      rex_counted (out-Rex x) (each_so (rex_parts (map-Rex Rex Scan Bool Bool is_numbered_rex (is_numbered numbers) (out-Rex x))) (sym (rex_opens x) ∙ so))
  counted_below (of_scan x) so =
      scan_counted (out-Scan x) (scan_so (map-Scan Rex Scan Bool Bool is_numbered_rex (is_numbered numbers) (out-Scan x)) (sym (scan_opens x) ∙ so))
  counted_below (of_compute c) so = (so, tt)
  counted_below (of_cte c) so = (so, tt)
  counted_below (of_tree tree) so = (so, tt)

  table_right : (z : Scan-F Rex Scan) → numbered_scan numbers (map-Scan Rex Scan Bool Bool is_numbered_rex (is_numbered numbers) z) ≡ true → right_scan numbers z
  table_right (t.Table name number columns) so = (Decides-eqb number (numbers name)).0 so
  table_right t.Single so = tt
  table_right _ so = tt

  pub counted_right : (x : Scan) → Counted (of_scan x) → right_scan numbers (out-Scan x)
  counted_right x so = table_right (out-Scan x) (sym (scan_opens x) ∙ so)
