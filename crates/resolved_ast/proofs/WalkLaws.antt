-- The walk that finds the first flaw, one level at a time; and that the Literals of a valid tree fit their types.
use Rattle.std.proofs.Common.{◌≡◌, ℕ, zero, suc, ◌≤◌, Bool, true, false, ◌&&◌, List, [], ◌∷◌, map, ◌++◌, Option, None, Some, Result, Ok, Err, refl, sym, ap, subst, ◌∙◌, arith}
use Rattle.resolved_ast.specs.declared.column.MadeColumn.{MadeColumn}
use Rattle.resolved_ast.specs.declared.flaw.Flaw.{Flaw}
use Rattle.resolved_ast.specs.declared.flaw.FlawKind.{FlawKind}
use Rattle.resolved_ast.specs.declared.rex.Compute.{Compute}
use Rattle.resolved_ast.specs.declared.rex.Rex.{Rex, out-Rex, roll-out-Rex, map-Rex, size-Rex, para-roll-Rex}
use Rattle.resolved_ast.specs.declared.rex.Rex.TheOpen.{Rex-F, Scan-F}
use Rattle.resolved_ast.specs.declared.rex.Rex.TheOpen as t
use Rattle.resolved_ast.specs.declared.scan.Cte.{Cte}
use Rattle.resolved_ast.specs.declared.scan.Scan.{Scan, out-Scan, roll-out-Scan, map-Scan, size-Scan, para-roll-Scan}
use Rattle.resolved_ast.specs.declared.scan.Tree.{Tree}
use Rattle.resolved_ast.specs.Flaws.{Sight, Before, Order, Walk, Walks, RexPart, ScanPart, first_kind, walk_all, are_new, at_node, each, compute_walk, computes, let_walks, cte_seen, with_walks, with_column, with_cte, below, rex_walk, scan_walk, RexWalk, ScanWalk, tree_walk, nothing_before, no_sight, Valid}
use Rattle.resolved_ast.specs.Columns.{numbers}
use Rattle.resolved_ast.specs.LiteralsFit.{RexFits, ScanFits, each_fits}
use Rattle.resolved_ast.proofs.FitLaws.{fits_rex, rex_fits_at, fits_scan, scan_fits_at}
use Rattle.resolved_ast.proofs.Smaller.{RexBelow, ScanBelow, smaller_rex, smaller_scan, some_rex, some_scan}

-- ---- one level of the walk

-- a part, with its walk
abbrev pub rex_part : Rex → RexPart
rex_part x = (x, RexWalk x)

abbrev pub scan_part : Scan → ScanPart
scan_part x = (x, ScanWalk x)

pub walked_rex : (x : Rex) → RexWalk x ≡ rex_walk (map-Rex Rex Scan RexPart ScanPart rex_part scan_part (out-Rex x))
unfolding RexWalk ScanWalk
walked_rex x = ap RexWalk (sym (roll-out-Rex x)) ∙ para-roll-Rex Walks Walks rex_walk scan_walk (out-Rex x)

pub walked_scan : (x : Scan) → ScanWalk x ≡ scan_walk (map-Scan Rex Scan RexPart ScanPart rex_part scan_part (out-Scan x))
unfolding RexWalk ScanWalk
walked_scan x = ap ScanWalk (sym (roll-out-Scan x)) ∙ para-roll-Scan Walks Walks rex_walk scan_walk (out-Scan x)

-- ---- walks that find no flaw

pub record Passed (w : Walk) : Type 0 where
  pub before : Before
  pub after : Before
  pub passes : w before ≡ Ok after

abbrev pub AllPassed : List Walk → Type 0
AllPassed [] = Unit {0}
AllPassed (w ∷ ws) = Passed w × AllPassed ws

no_err : (flaw : Flaw) (after : Before) → ◌≡◌ {A = Result Before Flaw} (Err flaw) (Ok after) → ⊥
no_err flaw after e = grind (arith, e)

first_passed : (w : Walk) (ws : List Walk) (before after : Before) → ((next : Before) → walk_all ws next ≡ Ok after → AllPassed ws) → (r : Result Before Flaw) → w before ≡ r →
    ◌≡◌ {A = Result Before Flaw} (elim r [ Ok next ↦ walk_all ws next | Err flaw ↦ Err flaw ]) (Ok after) → AllPassed (w ∷ ws)
first_passed w ws before after rest (Ok next) is e = (record { before = before; after = next; passes = is }, rest next e)
first_passed w ws before after rest (Err flaw) is e = absurd (no_err flaw after e)

pub all_passed : (ws : List Walk) (before after : Before) → walk_all ws before ≡ Ok after → AllPassed ws
all_passed [] before after e = tt
all_passed (w ∷ ws) before after e = first_passed w ws before after (λ next. all_passed ws next after) (w before) refl e

-- a node without a flaw: its types are right, and so are its parts
pub record NodePassed (order : Order) (parts : List Walk) : Type 0 where
  pub typed : order.typed ≡ true
  pub parts_pass : AllPassed parts

typed_of : (a b c d e : Bool) → first_kind (record { ids = a; seen = b; outers = c; typed = d; shaped = e }) ≡ None → d ≡ true
typed_of true true true true e h = refl
typed_of true true true false e h = grind (arith, h)
typed_of true true false d e h = grind (arith, h)
typed_of true false c d e h = grind (arith, h)
typed_of false b c d e h = grind (arith, h)

by_kind : (order : Order) (ids : Bool) (made : List MadeColumn) (parts : List Walk) (before after : Before) (k : Option FlawKind) → first_kind (record order { ids = ids }) ≡ k →
    ◌≡◌ {A = Result Before Flaw} (elim k [ Some kind ↦ Err (record { place = before.nodes; kind = kind }) | None ↦ walk_all parts (record { nodes = suc before.nodes; made = numbers made ++ before.made }) ]) (Ok after) → NodePassed order parts
by_kind order ids made parts before after None is e = record { typed = typed_of ids order.seen order.outers order.typed order.shaped is; parts_pass = all_passed parts _ after e }
by_kind order ids made parts before after (Some kind) is e = absurd (no_err _ after e)

pub node_passed : (order : Order) (made : List MadeColumn) (parts : List Walk) → Passed (at_node order made parts) → NodePassed order parts
unfolding at_node
node_passed order made parts p = by_kind order (order.ids && are_new (numbers made) p.before.made) made parts p.before p.after (first_kind (record order { ids = order.ids && are_new (numbers made) p.before.made })) refl p.passes

-- ---- the Literals of a part that passes fit

and_so : (a b : Bool) → a ≡ true → b ≡ true → (a && b) ≡ true
and_so a b x y = ap (λ c. c && b) x ∙ y

and_three : (a b d : Bool) → a ≡ true → (b && d) ≡ true → ((a && b) && d) ≡ true
and_three true b d x y = y
and_three false b d x y = grind (arith, x)

module _ {X Y : Type 0} (f : X → Rex) (h : Y → Scan) (rex_ok : (x : X) (sight : Sight) → Passed (RexWalk (f x) sight) → RexFits (f x) ≡ true)
    (scan_ok : (y : Y) (sight : Sight) → Passed (ScanWalk (h y) sight) → ScanFits (h y) ≡ true) where
  abbrev compute : Compute X → Compute Rex
  compute c = record { column = c.column; expr = f c.expr }

  abbrev compute_part : Compute Rex → Compute RexPart
  compute_part c = record { column = c.column; expr = rex_part c.expr }

  abbrev cte : Cte Y → Cte Scan
  cte c = record { number = c.number; columns = c.columns; scan = h c.scan }

  abbrev cte_part : Cte Scan → Cte ScanPart
  cte_part c = record { number = c.number; columns = c.columns; scan = scan_part c.scan }

  each_ok : (xs : List X) (sight : Sight) → AllPassed (each (map rex_part (map f xs)) sight) → each_fits RexFits (map f xs) ≡ true
  each_ok [] sight ps = refl
  each_ok (x ∷ xs) sight ps = and_so _ _ (rex_ok x sight ps.0) (each_ok xs sight ps.1)

  compute_ok : (c : Compute X) (sight : Sight) → Passed (compute_walk (compute_part (compute c)) sight) → RexFits (f c.expr) ≡ true
  compute_ok c sight p = rex_ok c.expr sight (node_passed _ _ _ p).parts_pass.0

  computes_ok : (cs : List (Compute X)) (sight : Sight) → AllPassed (computes (map compute_part (map compute cs)) sight) → each_fits (λ (c : Compute Rex). RexFits c.expr) (map compute cs) ≡ true
  computes_ok [] sight ps = refl
  computes_ok (c ∷ cs) sight ps = and_so _ _ (compute_ok c sight ps.0) (computes_ok cs sight ps.1)

  let_ok : (cs : List (Compute X)) (x : X) (sight : Sight) → AllPassed (let_walks (map compute_part (map compute cs)) (rex_part (f x)) sight) →
      (each_fits (λ (c : Compute Rex). RexFits c.expr) (map compute cs) && RexFits (f x)) ≡ true
  let_ok [] x sight ps = rex_ok x sight ps.0
  let_ok (c ∷ cs) x sight ps = and_three _ _ _ (compute_ok c sight ps.0) (let_ok cs x (with_column sight c.column) ps.1)

  ctes_ok : (earlier : List ℕ) (cs : List (Cte Y)) (y : Y) (sight : Sight) → AllPassed (with_walks earlier (map cte_part (map cte cs)) (scan_part (h y)) sight) →
      (each_fits (λ (c : Cte Scan). ScanFits c.scan) (map cte cs) && ScanFits (h y)) ≡ true
  ctes_ok earlier [] y sight ps = scan_ok y sight ps.0
  ctes_ok earlier (c ∷ cs) y sight ps =
      and_three _ _ _ (scan_ok c.scan sight (node_passed _ _ _ ps.0).parts_pass.0) (ctes_ok (c.number ∷ earlier) cs y (with_cte sight (cte_seen (cte_part (cte c)))) ps.1)

  pub rex_fits_by : (z : Rex-F X Y) (sight : Sight) → Passed (rex_walk (map-Rex Rex Scan RexPart ScanPart rex_part scan_part (map-Rex X Y Rex Scan f h z)) sight) → rex_fits_at (map-Rex X Y Rex Scan f h z) ≡ true
  rex_fits_by (t.Literal value ty) sight p = (node_passed _ _ _ p).typed
  rex_fits_by (t.Parameter name ty) sight p = refl
  rex_fits_by (t.Column column ty) sight p = refl
  rex_fits_by (t.Outer column ty) sight p = refl
  rex_fits_by (t.Call signature ty xs) sight p = each_ok xs sight (node_passed _ _ _ p).parts_pass
  rex_fits_by (t.SafeCall signature ty xs) sight p = each_ok xs sight (node_passed _ _ _ p).parts_pass
  rex_fits_by (t.Cast ty x) sight p = rex_ok x sight (node_passed _ _ _ p).parts_pass.0
  rex_fits_by (t.SafeCast ty x) sight p = rex_ok x sight (node_passed _ _ _ p).parts_pass.0
  rex_fits_by (t.If ty xs) sight p = each_ok xs sight (node_passed _ _ _ p).parts_pass
  rex_fits_by (t.Case ty xs) sight p = each_ok xs sight (node_passed _ _ _ p).parts_pass
  rex_fits_by (t.Coalesce ty xs) sight p = each_ok xs sight (node_passed _ _ _ p).parts_pass
  rex_fits_by (t.And ty xs) sight p = each_ok xs sight (node_passed _ _ _ p).parts_pass
  rex_fits_by (t.Or ty xs) sight p = each_ok xs sight (node_passed _ _ _ p).parts_pass
  rex_fits_by (t.IfError ty xs) sight p = each_ok xs sight (node_passed _ _ _ p).parts_pass
  rex_fits_by (t.IsError ty xs) sight p = each_ok xs sight (node_passed _ _ _ p).parts_pass
  rex_fits_by (t.NullIfError ty xs) sight p = each_ok xs sight (node_passed _ _ _ p).parts_pass
  rex_fits_by (t.Raise ty xs) sight p = each_ok xs sight (node_passed _ _ _ p).parts_pass
  rex_fits_by (t.InList x xs) sight p = each_ok (x ∷ xs) sight (node_passed _ _ _ p).parts_pass
  rex_fits_by (t.InArray x a) sight p = and_so _ _ (rex_ok x sight (node_passed _ _ _ p).parts_pass.0) (rex_ok a sight (node_passed _ _ _ p).parts_pass.1.0)
  rex_fits_by (t.Let ty cs x) sight p = let_ok cs x sight (node_passed _ _ _ p).parts_pass
  rex_fits_by (t.MakeArray ty xs) sight p = each_ok xs sight (node_passed _ _ _ p).parts_pass
  rex_fits_by (t.MakeStruct ty xs) sight p = each_ok xs sight (node_passed _ _ _ p).parts_pass
  rex_fits_by (t.Field place ty x) sight p = rex_ok x sight (node_passed _ _ _ p).parts_pass.0
  rex_fits_by (t.Index form ty a i) sight p = and_so _ _ (rex_ok a sight (node_passed _ _ _ p).parts_pass.0) (rex_ok i sight (node_passed _ _ _ p).parts_pass.1.0)
  rex_fits_by (t.Scalar ty column outer y) sight p = scan_ok y (below sight) (node_passed _ _ _ p).parts_pass.0
  rex_fits_by (t.ArrayOf ty column outer y) sight p = scan_ok y (below sight) (node_passed _ _ _ p).parts_pass.0
  rex_fits_by (t.Exists ty outer y) sight p = scan_ok y (below sight) (node_passed _ _ _ p).parts_pass.0
  rex_fits_by (t.InQuery ty column outer x y) sight p = and_so _ _ (rex_ok x sight (node_passed _ _ _ p).parts_pass.0) (scan_ok y (below sight) (node_passed _ _ _ p).parts_pass.1.0)

  pub scan_fits_by : (z : Scan-F X Y) (sight : Sight) → Passed (scan_walk (map-Scan Rex Scan RexPart ScanPart rex_part scan_part (map-Scan X Y Rex Scan f h z)) sight) → scan_fits_at (map-Scan X Y Rex Scan f h z) ≡ true
  scan_fits_by t.Single sight p = refl
  scan_fits_by (t.Table name number columns) sight p = refl
  scan_fits_by (t.With ctes y) sight p = ctes_ok [] ctes y sight (node_passed _ _ _ p).parts_pass
  scan_fits_by (t.CteRef number columns) sight p = refl
  scan_fits_by (t.Unnest kind element offset y a None) sight p =
      and_so _ _ (scan_ok y _ (node_passed _ _ _ p).parts_pass.0) (and_so _ _ (rex_ok a _ (node_passed _ _ _ p).parts_pass.1.0) refl)
  scan_fits_by (t.Unnest kind element offset y a (Some x)) sight p =
      and_so _ _ (scan_ok y _ (node_passed _ _ _ p).parts_pass.0) (and_so _ _ (rex_ok a _ (node_passed _ _ _ p).parts_pass.1.0) (and_so _ _ (rex_ok x _ (node_passed _ _ _ p).parts_pass.1.1.0) refl))
  scan_fits_by (t.Join kind y w None) sight p =
      and_so _ _ (scan_ok y _ (node_passed _ _ _ p).parts_pass.0) (and_so _ _ (scan_ok w _ (node_passed _ _ _ p).parts_pass.1.0) refl)
  scan_fits_by (t.Join kind y w (Some x)) sight p =
      and_so _ _ (scan_ok y _ (node_passed _ _ _ p).parts_pass.0) (and_so _ _ (scan_ok w _ (node_passed _ _ _ p).parts_pass.1.0) (and_so _ _ (rex_ok x _ (node_passed _ _ _ p).parts_pass.1.1.0) refl))
  scan_fits_by (t.Filter y x) sight p = and_so _ _ (scan_ok y _ (node_passed _ _ _ p).parts_pass.0) (rex_ok x _ (node_passed _ _ _ p).parts_pass.1.0)
  scan_fits_by (t.Project columns y cs) sight p = and_so _ _ (scan_ok y _ (node_passed _ _ _ p).parts_pass.0) (computes_ok cs _ (node_passed _ _ _ p).parts_pass.1)

-- ---- whole trees, by their size

mutual
  rex_at : (n : ℕ) (x : Rex) → size-Rex x ≤ n → (sight : Sight) → Passed (RexWalk x sight) → RexFits x ≡ true
  rex_at zero x le sight p = absurd (omega (arith, some_rex x))
  rex_at (suc n) x le sight p =
      let y = smaller_rex x (size-Rex x) (omega arith) in
      fits_rex x ∙ subst (λ z. rex_fits_at z ≡ true) y.1
      (rex_fits_by (λ (c : RexBelow (size-Rex x)). c.0) (λ (c : ScanBelow (size-Rex x)). c.0) (λ c s. rex_at n c.0 (omega (arith, c.1)) s) (λ c s. scan_at n c.0 (omega (arith, c.1)) s) y.0 sight
      (subst (λ z. Passed (rex_walk (map-Rex Rex Scan RexPart ScanPart rex_part scan_part z) sight)) (sym y.1) (subst (λ (w : Walks). Passed (w sight)) (walked_rex x) p)))

  scan_at : (n : ℕ) (x : Scan) → size-Scan x ≤ n → (sight : Sight) → Passed (ScanWalk x sight) → ScanFits x ≡ true
  scan_at zero x le sight p = absurd (omega (arith, some_scan x))
  scan_at (suc n) x le sight p =
      let y = smaller_scan x (size-Scan x) (omega arith) in
      fits_scan x ∙ subst (λ z. scan_fits_at z ≡ true) y.1
      (scan_fits_by (λ (c : RexBelow (size-Scan x)). c.0) (λ (c : ScanBelow (size-Scan x)). c.0) (λ c s. rex_at n c.0 (omega (arith, c.1)) s) (λ c s. scan_at n c.0 (omega (arith, c.1)) s) y.0 sight
      (subst (λ z. Passed (scan_walk (map-Scan Rex Scan RexPart ScanPart rex_part scan_part z) sight)) (sym y.1) (subst (λ (w : Walks). Passed (w sight)) (walked_scan x) p)))

passed_by : (tree : Tree) (r : Result Before Flaw) → tree_walk tree nothing_before ≡ r → ◌≡◌ {A = Option Flaw} (elim r [ Ok after ↦ None | Err flaw ↦ Some flaw ]) None → Passed (tree_walk tree)
passed_by tree (Ok after) is e = record { before = nothing_before; after = after; passes = is }
passed_by tree (Err flaw) is e = grind (arith, e)

-- the Literals of a valid tree fit their types
pub valid_fits : (tree : Tree) → Valid tree → ScanFits tree.scan ≡ true
valid_fits tree valid =
    scan_at (size-Scan tree.scan) tree.scan (omega arith) no_sight (node_passed _ _ _ (passed_by tree (tree_walk tree nothing_before) refl valid)).parts_pass.0
