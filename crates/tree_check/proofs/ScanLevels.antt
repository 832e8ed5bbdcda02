-- The walk of a scan, one level at a time, over walks of its parts as the code has them.
use Rattle.std.proofs.Common.{◌≡◌, Bool, true, false, ◌&&◌, List, [], ◌∷◌, ◌++◌, map, Option, None, Some, Result, Ok, Err, refl, ap, sym, ◌∙◌}
use Rattle.sql_types.specs.declared.kinds.JoinKind.{JoinKind}
use Rattle.sql_types.specs.declared.kinds.JoinKind.TheVariants as join
use Rattle.sql_types.specs.declared.sql_type.SqlType.{SqlType}
use Rattle.sql_types.specs.declared.sql_type.SqlType.TheVariants as types
use Rattle.sql_types.specs.SameType.{same_type}
use Rattle.resolved_ast.specs.declared.column.MadeColumn.{MadeColumn}
use Rattle.resolved_ast.specs.declared.flaw.Flaw.{Flaw}
use Rattle.resolved_ast.specs.declared.rex.Compute.{Compute}
use Rattle.resolved_ast.specs.declared.rex.Rex.{Rex}
use Rattle.resolved_ast.specs.declared.rex.Rex.TheOpen.{Rex-F, Scan-F}
use Rattle.resolved_ast.specs.declared.rex.Rex.TheOpen as t
use Rattle.resolved_ast.specs.declared.scan.Cte.{Cte}
use Rattle.resolved_ast.specs.declared.scan.Scan.{Scan, out-Scan, map-Scan}
use Rattle.resolved_ast.specs.Columns.{rex_type, element_of, columns, computed_columns}
use Rattle.resolved_ast.specs.Flaws.{Sight, Before, Order, Walk, RexPart, ScanPart, in_order, walk_all, at_node, over, computes, compute_walk, with_walks, cte_types, reference, all_of_type, is_type, condition_shaped, all_seen, scan_walk, RexWalk, ScanWalk}
use Rattle.resolved_ast.specs.Flaws as flaws
use Rattle.resolved_ast.specs.Parts.{there}
use Rattle.resolved_ast.proofs.WalkLaws.{rex_part, scan_part, walked_scan}
use Rattle.tree_check.specs.LetWalks.{compute_of}
use Rattle.tree_check.specs.WithWalks.{cte_part}
use Rattle.tree_check.proofs.ThenLaws.{onward, node_then, alone}
use Rattle.tree_check.proofs.RexLevels.{types_of}

-- a part that may be missing
abbrev pub there_walk : Option Rex → Sight → Walk
there_walk x sight = walk_all (map (λ y. RexWalk y sight) (there x))

abbrev pub computes_walk : List (Compute Rex) → Sight → Walk
computes_walk cs sight = walk_all (map (λ c. compute_of rex_type RexWalk c sight) cs)

abbrev compute_part : Compute Rex → Compute RexPart
compute_part c = record { column = c.column; expr = rex_part c.expr }

abbrev cte_as : Cte Scan → Cte ScanPart
cte_as c = record { number = c.number; columns = c.columns; scan = scan_part c.scan }

ctes_parts : (cs : List (Cte Scan)) → map cte_as cs ≡ map (cte_part (λ scan. scan) ScanWalk) cs
ctes_parts [] = refl
ctes_parts (c ∷ cs) = ap (λ ds. cte_as c ∷ ds) (ctes_parts cs)

computes_parts : (cs : List (Compute Rex)) (sight : Sight) → computes (map compute_part cs) sight ≡ map (λ c. compute_of rex_type RexWalk c sight) cs
computes_parts [] sight = refl
computes_parts (c ∷ cs) sight = ap (λ ws. compute_of rex_type RexWalk c sight ∷ ws) (computes_parts cs sight)

computed_parts : (cs : List (Compute Rex)) → computed_columns (map compute_part cs) ≡ computed_columns cs
computed_parts [] = refl
computed_parts (c ∷ cs) = ap (λ xs. c.column ∷ xs) (computed_parts cs)

-- several parts behind others are one
last_by : (ws : List Walk) (r : Result Before Flaw) → onward r (walk_all ws) ≡ onward r (walk_all (walk_all ws ∷ []))
last_by ws (Ok after) = sym (alone (walk_all ws) after)
last_by ws (Err flaw) = refl

after_one : (v : Walk) (ws : List Walk) (r : Result Before Flaw) → onward r (walk_all (v ∷ ws)) ≡ onward r (walk_all (v ∷ walk_all ws ∷ []))
after_one v ws (Ok after) = last_by ws (v after)
after_one v ws (Err flaw) = refl

after_two : (u v : Walk) (ws : List Walk) (r : Result Before Flaw) → onward r (walk_all (u ∷ v ∷ ws)) ≡ onward r (walk_all (u ∷ v ∷ walk_all ws ∷ []))
after_two u v ws (Ok after) = after_one v ws (u after)
after_two u v ws (Err flaw) = refl

node_one : (order : Order) (made : List MadeColumn) (v : Walk) (ws : List Walk) (before : Before) → at_node order made (v ∷ ws) before ≡ at_node order made (v ∷ walk_all ws ∷ []) before
node_one order made v ws before =
    node_then order made (v ∷ ws) before ∙ after_one v ws (at_node order made [] before) ∙ sym (node_then order made (v ∷ walk_all ws ∷ []) before)

node_two : (order : Order) (made : List MadeColumn) (u v : Walk) (ws : List Walk) (before : Before) → at_node order made (u ∷ v ∷ ws) before ≡ at_node order made (u ∷ v ∷ walk_all ws ∷ []) before
node_two order made u v ws before =
    node_then order made (u ∷ v ∷ ws) before ∙ after_two u v ws (at_node order made [] before) ∙ sym (node_then order made (u ∷ v ∷ walk_all ws ∷ []) before)

with_so : (b : Bool) → (b && true) ≡ b
with_so true = refl
with_so false = refl

-- ---- one level

abbrev pub condition_of : Option Rex → List SqlType
condition_of x = types_of (there x)

abbrev pub scan_level : Scan-F Rex Scan → Sight → Walk
scan_level t.Single sight = at_node in_order [] []
scan_level (t.Table name number made) sight = at_node in_order made []
scan_level (t.With ctes scan) sight = at_node in_order [] (with_walks [] (map (cte_part (λ s. s) ScanWalk) ctes) (scan_part scan) sight)
scan_level (t.CteRef number made) sight = at_node (reference (flaws.types_of made) (cte_types number sight.ctes)) made []
scan_level (t.Unnest kind element offset scan array condition) sight =
    at_node (record in_order { typed = (is_type element.ty (element_of (rex_type array)) && all_of_type types.Int64 (flaws.types_of (there offset))) && all_of_type types.Bool (condition_of condition) })
    (element ∷ there offset)
    (ScanWalk scan sight ∷ RexWalk array (over sight (columns scan)) ∷ there_walk condition (over sight (columns scan ++ element ∷ there offset)) ∷ [])
scan_level (t.Join kind left right condition) sight =
    at_node (record in_order { typed = all_of_type types.Bool (condition_of condition); shaped = condition_shaped kind condition }) []
    (ScanWalk left sight ∷ ScanWalk right sight ∷ there_walk condition (over sight (columns left ++ columns right)) ∷ [])
scan_level (t.Filter scan condition) sight =
    at_node (record in_order { typed = same_type types.Bool (rex_type condition) }) [] (ScanWalk scan sight ∷ RexWalk condition (over sight (columns scan)) ∷ [])
scan_level (t.Project refs scan computed) sight =
    at_node (record in_order { seen = all_seen refs (columns scan ++ computed_columns computed) }) [] (ScanWalk scan sight ∷ computes_walk computed (over sight (columns scan)) ∷ [])

some_shaped : (kind : JoinKind) (x : Rex) (y : RexPart) → condition_shaped kind (Some y) ≡ condition_shaped kind (Some x)
some_shaped join.Cross x y = refl
some_shaped _ x y = refl

none_shaped : (kind : JoinKind) → condition_shaped {A = RexPart} kind None ≡ condition_shaped {A = Rex} kind None
none_shaped join.Cross = refl
none_shaped _ = refl

leveled : (z : Scan-F Rex Scan) (sight : Sight) (before : Before) → scan_walk (map-Scan Rex Scan RexPart ScanPart rex_part scan_part z) sight before ≡ scan_level z sight before
leveled t.Single sight before = refl
leveled (t.Table name number made) sight before = refl
leveled (t.With ctes scan) sight before = ap (λ cs. at_node in_order [] (with_walks [] cs (scan_part scan) sight) before) (ctes_parts ctes)
leveled (t.CteRef number made) sight before = refl
leveled (t.Unnest kind element offset scan array None) sight before =
    node_two (record in_order { typed = (is_type element.ty (element_of (rex_type array)) && all_of_type types.Int64 (flaws.types_of (there offset))) && true })
    (element ∷ there offset) (ScanWalk scan sight) (RexWalk array (over sight (columns scan))) [] before
leveled (t.Unnest kind element offset scan array (Some x)) sight before =
    ap (λ b. at_node (record in_order { typed = (is_type element.ty (element_of (rex_type array)) && all_of_type types.Int64 (flaws.types_of (there offset))) && b })
    (element ∷ there offset) (ScanWalk scan sight ∷ RexWalk array (over sight (columns scan)) ∷ RexWalk x (over sight (columns scan ++ element ∷ there offset)) ∷ []) before) (sym (with_so (same_type types.Bool (rex_type x))))
    ∙ node_two (record in_order { typed = (is_type element.ty (element_of (rex_type array)) && all_of_type types.Int64 (flaws.types_of (there offset))) && (same_type types.Bool (rex_type x) && true) })
    (element ∷ there offset) (ScanWalk scan sight) (RexWalk array (over sight (columns scan))) (RexWalk x (over sight (columns scan ++ element ∷ there offset)) ∷ []) before
leveled (t.Join kind left right None) sight before =
    ap (λ b. at_node (record in_order { typed = true; shaped = b }) [] (ScanWalk left sight ∷ ScanWalk right sight ∷ []) before) (none_shaped kind)
    ∙ node_two (record in_order { typed = true; shaped = condition_shaped {A = Rex} kind None }) [] (ScanWalk left sight) (ScanWalk right sight) [] before
leveled (t.Join kind left right (Some x)) sight before =
    ap (λ b. at_node (record in_order { typed = same_type types.Bool (rex_type x); shaped = b }) [] (ScanWalk left sight ∷ ScanWalk right sight ∷ RexWalk x (over sight (columns left ++ columns right)) ∷ []) before) (some_shaped kind x (rex_part x))
    ∙ ap (λ b. at_node (record in_order { typed = b; shaped = condition_shaped kind (Some x) }) [] (ScanWalk left sight ∷ ScanWalk right sight ∷ RexWalk x (over sight (columns left ++ columns right)) ∷ []) before) (sym (with_so (same_type types.Bool (rex_type x))))
    ∙ node_two (record in_order { typed = same_type types.Bool (rex_type x) && true; shaped = condition_shaped kind (Some x) }) [] (ScanWalk left sight) (ScanWalk right sight) (RexWalk x (over sight (columns left ++ columns right)) ∷ []) before
leveled (t.Filter scan condition) sight before = refl
leveled (t.Project refs scan computed) sight before =
    ap (λ cs. at_node (record in_order { seen = all_seen refs (columns scan ++ cs) }) [] (ScanWalk scan sight ∷ computes (map compute_part computed) (over sight (columns scan))) before) (computed_parts computed)
    ∙ ap (λ ws. at_node (record in_order { seen = all_seen refs (columns scan ++ computed_columns computed) }) [] (ScanWalk scan sight ∷ ws) before) (computes_parts computed (over sight (columns scan)))
    ∙ node_one (record in_order { seen = all_seen refs (columns scan ++ computed_columns computed) }) [] (ScanWalk scan sight) (map (λ c. compute_of rex_type RexWalk c (over sight (columns scan))) computed) before

-- ---- the columns as the code lists them

none_after : {A : Type 0} (xs : List A) → xs ++ [] ≡ xs
none_after [] = refl
none_after (x ∷ xs) = ap (λ ys. x ∷ ys) (none_after xs)

abbrev pub one_in : Scan → List MadeColumn
one_in scan = columns scan ++ []

abbrev pub two_in : Scan → Scan → List MadeColumn
two_in left right = columns left ++ (columns right ++ [])

abbrev pub elements_in : Scan → MadeColumn → Option MadeColumn → List MadeColumn
elements_in scan element offset = columns scan ++ (element ∷ (there offset ++ []))

two_as : (left right : Scan) → columns left ++ columns right ≡ two_in left right
two_as left right = ap (λ (ys : List MadeColumn). columns left ++ ys) (sym (none_after (columns right)))

elements_as : (scan : Scan) (element : MadeColumn) (offset : Option MadeColumn) → columns scan ++ element ∷ there offset ≡ elements_in scan element offset
elements_as scan element offset = ap (λ (ys : List MadeColumn). columns scan ++ element ∷ ys) (sym (none_after (there offset)))

abbrev pub scan_at : Scan-F Rex Scan → Sight → Walk
scan_at (t.Unnest kind element offset scan array condition) sight =
    at_node (record in_order { typed = (is_type element.ty (element_of (rex_type array)) && all_of_type types.Int64 (flaws.types_of (there offset))) && all_of_type types.Bool (condition_of condition) })
    (element ∷ there offset)
    (ScanWalk scan sight ∷ RexWalk array (over sight (one_in scan)) ∷ there_walk condition (over sight (elements_in scan element offset)) ∷ [])
scan_at (t.Join kind left right condition) sight =
    at_node (record in_order { typed = all_of_type types.Bool (condition_of condition); shaped = condition_shaped kind condition }) []
    (ScanWalk left sight ∷ ScanWalk right sight ∷ there_walk condition (over sight (two_in left right)) ∷ [])
scan_at (t.Filter scan condition) sight =
    at_node (record in_order { typed = same_type types.Bool (rex_type condition) }) [] (ScanWalk scan sight ∷ RexWalk condition (over sight (one_in scan)) ∷ [])
scan_at (t.Project refs scan computed) sight =
    at_node (record in_order { seen = all_seen refs (columns scan ++ computed_columns computed) }) [] (ScanWalk scan sight ∷ computes_walk computed (over sight (one_in scan)) ∷ [])
scan_at t.Single sight = scan_level t.Single sight
scan_at (t.Table name number made) sight = scan_level (t.Table name number made) sight
scan_at (t.With ctes scan) sight = scan_level (t.With ctes scan) sight
scan_at (t.CteRef number made) sight = scan_level (t.CteRef number made) sight

listed_so : (z : Scan-F Rex Scan) (sight : Sight) (before : Before) → scan_level z sight before ≡ scan_at z sight before
listed_so t.Single sight before = refl
listed_so (t.Table name number made) sight before = refl
listed_so (t.With ctes scan) sight before = refl
listed_so (t.CteRef number made) sight before = refl
listed_so (t.Unnest kind element offset scan array condition) sight before =
    ap (λ cs. at_node (record in_order { typed = (is_type element.ty (element_of (rex_type array)) && all_of_type types.Int64 (flaws.types_of (there offset))) && all_of_type types.Bool (condition_of condition) })
    (element ∷ there offset) (ScanWalk scan sight ∷ RexWalk array (over sight cs) ∷ there_walk condition (over sight (columns scan ++ element ∷ there offset)) ∷ []) before) (sym (none_after (columns scan)))
    ∙ ap (λ cs. at_node (record in_order { typed = (is_type element.ty (element_of (rex_type array)) && all_of_type types.Int64 (flaws.types_of (there offset))) && all_of_type types.Bool (condition_of condition) })
    (element ∷ there offset) (ScanWalk scan sight ∷ RexWalk array (over sight (one_in scan)) ∷ there_walk condition (over sight cs) ∷ []) before) (elements_as scan element offset)
listed_so (t.Join kind left right condition) sight before =
    ap (λ cs. at_node (record in_order { typed = all_of_type types.Bool (condition_of condition); shaped = condition_shaped kind condition }) []
    (ScanWalk left sight ∷ ScanWalk right sight ∷ there_walk condition (over sight cs) ∷ []) before) (two_as left right)
listed_so (t.Filter scan condition) sight before =
    ap (λ cs. at_node (record in_order { typed = same_type types.Bool (rex_type condition) }) [] (ScanWalk scan sight ∷ RexWalk condition (over sight cs) ∷ []) before) (sym (none_after (columns scan)))
listed_so (t.Project refs scan computed) sight before =
    ap (λ cs. at_node (record in_order { seen = all_seen refs (columns scan ++ computed_columns computed) }) [] (ScanWalk scan sight ∷ computes_walk computed (over sight cs) ∷ []) before) (sym (none_after (columns scan)))

-- the walk of a scan of a known form
pub walks_scan : (x : Scan) (z : Scan-F Rex Scan) (sight : Sight) (before : Before) → out-Scan x ≡ z → ScanWalk x sight before ≡ scan_at z sight before
walks_scan x z sight before e =
    ap (λ (w : Sight → Walk). w sight before) (walked_scan x) ∙ leveled (out-Scan x) sight before ∙ listed_so (out-Scan x) sight before ∙ ap (λ y. scan_at y sight before) e
