-- A part of a valid tree passes the walk in some sight, and so do the parts below it; its value fits its type, and its signature is
-- told by its name and its first argument.
use Rattle.std.proofs.Common.{◌≡◌, ℕ, suc, Bool, true, false, ◌&&◌, List, [], ◌∷◌, ◌++◌, map, Option, None, Some, Result, Ok, Err, refl, sym, ap, subst, ◌∙◌, arith}
use Rattle.sql_types.specs.declared.sql_type.SqlType.{SqlType}
use Rattle.sql_builtins.specs.declared.sig.SigId.{SigId}
use Rattle.resolved_ast.specs.declared.column.MadeColumn.{MadeColumn}
use Rattle.resolved_ast.specs.declared.flaw.Flaw.{Flaw}
use Rattle.resolved_ast.specs.declared.flaw.FlawKind.{FlawKind}
use Rattle.resolved_ast.specs.declared.rex.Compute.{Compute}
use Rattle.resolved_ast.specs.declared.rex.Rex.{Rex, out-Rex, map-Rex}
use Rattle.resolved_ast.specs.declared.rex.Rex.TheOpen.{Rex-F, Scan-F}
use Rattle.resolved_ast.specs.declared.rex.Rex.TheOpen as t
use Rattle.resolved_ast.specs.declared.scan.Cte.{Cte}
use Rattle.resolved_ast.specs.declared.scan.Scan.{Scan, out-Scan, map-Scan}
use Rattle.resolved_ast.specs.declared.scan.Tree.{Tree}
use Rattle.resolved_ast.specs.Columns.{rex_type, numbers}
use Rattle.resolved_ast.specs.Flaws.{Sight, Before, Order, Walk, Walks, RexPart, ScanPart, first_kind, walk_all, are_new, at_node, each, types, trees, compute_walk, computes, let_walks, cte_seen, with_walks, with_column, with_cte, rex_walk, scan_walk, RexWalk, ScanWalk, tree_walk, nothing_before, no_sight, Valid}
use Rattle.resolved_ast.specs.SignatureNames.{signature_name}
use Rattle.resolved_ast.specs.Signatures.{call_row, row_typed, row_shaped}
use Rattle.resolved_ast.proofs.WalkLaws.{Passed, AllPassed, rex_part, scan_part, walked_rex, walked_scan, node_passed}
use Rattle.tree_texts.proofs.Joins.{Each}
use Rattle.tree_texts.proofs.Shapes.{Part, of_rex, of_scan, of_compute, of_cte, of_tree, rex_below, scan_below}
use Rattle.tree_texts.proofs.Shapes as shapes
use Rattle.tree_texts.proofs.SignatureTexts.{signature_told, signature_once}
use Rattle.tree_texts.proofs.Wholes.{right_rex}

-- ---- a node without a flaw has the shape that it needs

no_err : (flaw : Flaw) (after : Before) → ◌≡◌ {A = Result Before Flaw} (Err flaw) (Ok after) → ⊥
no_err flaw after e = grind (arith, e)

shaped_of : (a b c d e : Bool) → first_kind (record { ids = a; seen = b; outers = c; typed = d; shaped = e }) ≡ None → e ≡ true
shaped_of true true true true true h = refl
shaped_of true true true true false h = grind (arith, h)
shaped_of true true true false e h = grind (arith, h)
shaped_of true true false d e h = grind (arith, h)
shaped_of true false c d e h = grind (arith, h)
shaped_of false b c d e h = grind (arith, h)

by_kind : (order : Order) (ids : Bool) (made : List MadeColumn) (parts : List Walk) (before after : Before) (k : Option FlawKind) → first_kind (record order { ids = ids }) ≡ k →
    ◌≡◌ {A = Result Before Flaw} (elim k [ Some kind ↦ Err (record { place = before.nodes; kind = kind }) | None ↦ walk_all parts (record { nodes = suc before.nodes; made = numbers made ++ before.made }) ]) (Ok after) → order.shaped ≡ true
by_kind order ids made parts before after None is e = shaped_of ids order.seen order.outers order.typed order.shaped is
by_kind order ids made parts before after (Some kind) is e = absurd (no_err _ after e)

node_shaped : (order : Order) (made : List MadeColumn) (parts : List Walk) → Passed (at_node order made parts) → order.shaped ≡ true
unfolding at_node
node_shaped order made parts p = by_kind order (order.ids && are_new (numbers made) p.before.made) made parts p.before p.after (first_kind (record order { ids = order.ids && are_new (numbers made) p.before.made })) refl p.passes

-- ---- what passes in some sight

abbrev pub Seen : Part → Type 0
Seen (of_rex x) = (sight : Sight) × Passed (RexWalk x sight)
Seen (of_scan x) = (sight : Sight) × Passed (ScanWalk x sight)
Seen (of_compute c) = (sight : Sight) × Passed (RexWalk c.expr sight)
Seen (of_cte c) = (sight : Sight) × Passed (ScanWalk c.scan sight)
Seen (of_tree tree) = (sight : Sight) × Passed (ScanWalk tree.scan sight)

abbrev compute_part : Compute Rex → Compute RexPart
compute_part c = record { column = c.column; expr = rex_part c.expr }

abbrev cte_part : Cte Scan → Cte ScanPart
cte_part c = record { number = c.number; columns = c.columns; scan = scan_part c.scan }

each_seen : (xs : List Rex) (sight : Sight) → AllPassed (each (map rex_part xs) sight) → Each Seen (map of_rex xs)
each_seen [] sight ps = tt
each_seen (x ∷ xs) sight ps = ((sight, ps.0), each_seen xs sight ps.1)

compute_seen : (c : Compute Rex) (sight : Sight) → Passed (compute_walk (compute_part c) sight) → Seen (of_compute c)
compute_seen c sight p = (sight, (node_passed _ _ _ p).parts_pass.0)

computes_seen : (cs : List (Compute Rex)) (sight : Sight) → AllPassed (computes (map compute_part cs) sight) → Each Seen (map of_compute cs)
computes_seen [] sight ps = tt
computes_seen (c ∷ cs) sight ps = (compute_seen c sight ps.0, computes_seen cs sight ps.1)

let_seen : (cs : List (Compute Rex)) (x : Rex) (sight : Sight) → AllPassed (let_walks (map compute_part cs) (rex_part x) sight) → Each Seen (map of_compute cs ++ of_rex x ∷ [])
let_seen [] x sight ps = ((sight, ps.0), tt)
let_seen (c ∷ cs) x sight ps = (compute_seen c sight ps.0, let_seen cs x (with_column sight c.column) ps.1)

ctes_seen : (earlier : List ℕ) (cs : List (Cte Scan)) (x : Scan) (sight : Sight) → AllPassed (with_walks earlier (map cte_part cs) (scan_part x) sight) → Each Seen (map of_cte cs ++ of_scan x ∷ [])
ctes_seen earlier [] x sight ps = ((sight, ps.0), tt)
ctes_seen earlier (c ∷ cs) x sight ps =
    ((sight, (node_passed _ _ _ ps.0).parts_pass.0), ctes_seen (c.number ∷ earlier) cs x (with_cte sight (cte_seen (cte_part c))) ps.1)

rex_seen : (z : Rex-F Rex Scan) (sight : Sight) → Passed (rex_walk (map-Rex Rex Scan RexPart ScanPart rex_part scan_part z) sight) → Each Seen (rex_below z)
rex_seen (t.Literal value ty) sight p = tt
rex_seen (t.Parameter name ty) sight p = tt
rex_seen (t.Column column ty) sight p = tt
rex_seen (t.Outer column ty) sight p = tt
rex_seen (t.Call signature ty arguments) sight p = each_seen arguments sight (node_passed _ _ _ p).parts_pass
rex_seen (t.SafeCall signature ty arguments) sight p = each_seen arguments sight (node_passed _ _ _ p).parts_pass
rex_seen (t.Cast ty expr) sight p = ((_, (node_passed _ _ _ p).parts_pass.0), tt)
rex_seen (t.SafeCast ty expr) sight p = ((_, (node_passed _ _ _ p).parts_pass.0), tt)
rex_seen (t.If ty operands) sight p = each_seen operands sight (node_passed _ _ _ p).parts_pass
rex_seen (t.Case ty operands) sight p = each_seen operands sight (node_passed _ _ _ p).parts_pass
rex_seen (t.Coalesce ty operands) sight p = each_seen operands sight (node_passed _ _ _ p).parts_pass
rex_seen (t.And ty operands) sight p = each_seen operands sight (node_passed _ _ _ p).parts_pass
rex_seen (t.Or ty operands) sight p = each_seen operands sight (node_passed _ _ _ p).parts_pass
rex_seen (t.IfError ty operands) sight p = each_seen operands sight (node_passed _ _ _ p).parts_pass
rex_seen (t.IsError ty operands) sight p = each_seen operands sight (node_passed _ _ _ p).parts_pass
rex_seen (t.NullIfError ty operands) sight p = each_seen operands sight (node_passed _ _ _ p).parts_pass
rex_seen (t.Raise ty operands) sight p = each_seen operands sight (node_passed _ _ _ p).parts_pass
rex_seen (t.InList sought list) sight p = each_seen (sought ∷ list) sight (node_passed _ _ _ p).parts_pass
rex_seen (t.InArray sought array) sight p = ((_, (node_passed _ _ _ p).parts_pass.0), ((_, (node_passed _ _ _ p).parts_pass.1.0), tt))
rex_seen (t.Let ty bindings expr) sight p = let_seen bindings expr sight (node_passed _ _ _ p).parts_pass
rex_seen (t.MakeArray ty operands) sight p = each_seen operands sight (node_passed _ _ _ p).parts_pass
rex_seen (t.MakeStruct ty operands) sight p = each_seen operands sight (node_passed _ _ _ p).parts_pass
rex_seen (t.Field place ty expr) sight p = ((_, (node_passed _ _ _ p).parts_pass.0), tt)
rex_seen (t.Index form ty array index) sight p = ((_, (node_passed _ _ _ p).parts_pass.0), ((_, (node_passed _ _ _ p).parts_pass.1.0), tt))
rex_seen (t.Scalar ty column outer inner) sight p = ((_, (node_passed _ _ _ p).parts_pass.0), tt)
rex_seen (t.ArrayOf ty column outer inner) sight p = ((_, (node_passed _ _ _ p).parts_pass.0), tt)
rex_seen (t.Exists ty outer inner) sight p = ((_, (node_passed _ _ _ p).parts_pass.0), tt)
rex_seen (t.InQuery ty column outer sought inner) sight p = ((_, (node_passed _ _ _ p).parts_pass.0), ((_, (node_passed _ _ _ p).parts_pass.1.0), tt))

scan_seen : (z : Scan-F Rex Scan) (sight : Sight) → Passed (scan_walk (map-Scan Rex Scan RexPart ScanPart rex_part scan_part z) sight) → Each Seen (scan_below z)
scan_seen t.Single sight p = tt
scan_seen (t.Table name number columns) sight p = tt
scan_seen (t.With ctes inner) sight p = ctes_seen [] ctes inner sight (node_passed _ _ _ p).parts_pass
scan_seen (t.CteRef number columns) sight p = tt
scan_seen (t.Unnest kind element offset inner array None) sight p = ((_, (node_passed _ _ _ p).parts_pass.0), ((_, (node_passed _ _ _ p).parts_pass.1.0), tt))
scan_seen (t.Unnest kind element offset inner array (Some condition)) sight p = ((_, (node_passed _ _ _ p).parts_pass.0), ((_, (node_passed _ _ _ p).parts_pass.1.0), ((_, (node_passed _ _ _ p).parts_pass.1.1.0), tt)))
scan_seen (t.Join kind left right None) sight p = ((_, (node_passed _ _ _ p).parts_pass.0), ((_, (node_passed _ _ _ p).parts_pass.1.0), tt))
scan_seen (t.Join kind left right (Some condition)) sight p = ((_, (node_passed _ _ _ p).parts_pass.0), ((_, (node_passed _ _ _ p).parts_pass.1.0), ((_, (node_passed _ _ _ p).parts_pass.1.1.0), tt)))
scan_seen (t.Filter inner condition) sight p = ((_, (node_passed _ _ _ p).parts_pass.0), ((_, (node_passed _ _ _ p).parts_pass.1.0), tt))
scan_seen (t.Project columns inner computed) sight p = ((_, (node_passed _ _ _ p).parts_pass.0), computes_seen computed _ (node_passed _ _ _ p).parts_pass.1)

rex_at : (x : Rex) (sight : Sight) → Passed (RexWalk x sight) → Passed (rex_walk (map-Rex Rex Scan RexPart ScanPart rex_part scan_part (out-Rex x)) sight)
rex_at x sight p = subst (λ (w : Walks). Passed (w sight)) (walked_rex x) p

scan_at : (x : Scan) (sight : Sight) → Passed (ScanWalk x sight) → Passed (scan_walk (map-Scan Rex Scan RexPart ScanPart rex_part scan_part (out-Scan x)) sight)
scan_at x sight p = subst (λ (w : Walks). Passed (w sight)) (walked_scan x) p

pub seen_below : (p : Part) → Seen p → Each Seen (shapes.below p)
seen_below (of_rex x) p = rex_seen (out-Rex x) p.0 (rex_at x p.0 p.1)
seen_below (of_scan x) p = scan_seen (out-Scan x) p.0 (scan_at x p.0 p.1)
seen_below (of_compute c) p = (p, tt)
seen_below (of_cte c) p = (p, tt)
seen_below (of_tree tree) p = (p, tt)

-- ---- values and signatures

part_types : (xs : List Rex) → types (map rex_part xs) ≡ map rex_type xs
part_types [] = refl
part_types (x ∷ xs) = ap (λ l. rex_type x ∷ l) (part_types xs)

part_trees : (xs : List Rex) → trees (map rex_part xs) ≡ xs
part_trees [] = refl
part_trees (x ∷ xs) = ap (λ l. x ∷ l) (part_trees xs)

call_right : (s : SigId) (ty : SqlType) (xs : List Rex) → row_typed (call_row s) (types (map rex_part xs)) ty ≡ true → row_shaped (call_row s) (trees (map rex_part xs)) ≡ true
    → signature_told (signature_name s) (map rex_type xs) ≡ s
call_right s ty xs typed shaped =
    signature_once s xs ty (ap (λ l. row_typed (call_row s) l ty) (sym (part_types xs)) ∙ typed) (ap (row_shaped (call_row s)) (sym (part_trees xs)) ∙ shaped)

walk_right : (z : Rex-F Rex Scan) (sight : Sight) → Passed (rex_walk (map-Rex Rex Scan RexPart ScanPart rex_part scan_part z) sight) → right_rex z
walk_right (t.Literal value ty) sight p = (node_passed _ _ _ p).typed
walk_right (t.Call signature ty xs) sight p = call_right signature ty xs (node_passed _ _ _ p).typed (node_shaped _ _ _ p)
walk_right (t.SafeCall signature ty xs) sight p = call_right signature ty xs (node_passed _ _ _ p).typed (node_shaped _ _ _ p)
walk_right _ sight p = tt

pub seen_right : (x : Rex) → Seen (of_rex x) → right_rex (out-Rex x)
seen_right x p = walk_right (out-Rex x) p.0 (rex_at x p.0 p.1)

-- ---- whole trees

passed_by : (tree : Tree) (r : Result Before Flaw) → tree_walk tree nothing_before ≡ r → ◌≡◌ {A = Option Flaw} (elim r [ Ok after ↦ None | Err flaw ↦ Some flaw ]) None → Passed (tree_walk tree)
passed_by tree (Ok after) is e = record { before = nothing_before; after = after; passes = is }
passed_by tree (Err flaw) is e = grind (arith, e)

pub valid_seen : (tree : Tree) → Valid tree → Seen (of_tree tree)
valid_seen tree valid = (no_sight, (node_passed _ _ _ (passed_by tree (tree_walk tree nothing_before) refl valid)).parts_pass.0)
