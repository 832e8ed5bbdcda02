-- The walk of an expression, one level at a time, over walks of its parts as the code has them.
use Rattle.std.proofs.Common.{◌≡◌, suc, ◌==◌, nat_lt, Bool, true, ◌&&◌, List, [], ◌∷◌, map, length, Result, Ok, Err, refl, ap, sym, ◌∙◌}
use Rattle.sql_types.specs.declared.sql_type.SqlType.{SqlType}
use Rattle.sql_types.specs.declared.sql_type.SqlType.TheVariants as types
use Rattle.sql_types.specs.Comparable.{comparable}
use Rattle.sql_types.specs.Fits.{fits}
use Rattle.sql_types.specs.SameType.{same_type}
use Rattle.sql_coerce.specs.Casts.{castable}
use Rattle.resolved_ast.specs.declared.flaw.Flaw.{Flaw}
use Rattle.resolved_ast.specs.declared.rex.Compute.{Compute}
use Rattle.resolved_ast.specs.declared.rex.Rex.{Rex, out-Rex, map-Rex}
use Rattle.resolved_ast.specs.declared.rex.Rex.TheOpen.{Rex-F, Scan-F}
use Rattle.resolved_ast.specs.declared.rex.Rex.TheOpen as t
use Rattle.resolved_ast.specs.declared.scan.Scan.{Scan}
use Rattle.resolved_ast.specs.Columns.{rex_type, element_of}
use Rattle.resolved_ast.specs.Flaws.{Sight, Before, Order, Walk, RexPart, ScanPart, in_order, walk_all, at_node, each, let_walks, below, with_column, sees_typed, any_type, takes, subquery, all_of_type, case_typed, one_or_more, elements_coerce, array_typed, struct_typed, struct_shaped, has_field, is_type, rex_walk, RexWalk, ScanWalk}
use Rattle.resolved_ast.specs.Flaws as flaws
use Rattle.resolved_ast.specs.Signatures.{call_row, row_typed, row_shaped, typed_as}
use Rattle.resolved_ast.proofs.WalkLaws.{rex_part, scan_part, walked_rex}
use Rattle.tree_check.specs.LetWalks.{compute_of, let_of}
use Rattle.tree_check.proofs.ThenLaws.{onward, node_then, alone}

-- ---- lists of parts

abbrev pub each_walk : List Rex → Sight → Walk
each_walk xs sight = walk_all (map (λ x. RexWalk x sight) xs)

abbrev pub types_of : List Rex → List SqlType
types_of xs = map rex_type xs

each_parts : (xs : List Rex) (sight : Sight) → each (map rex_part xs) sight ≡ map (λ x. RexWalk x sight) xs
each_parts [] sight = refl
each_parts (x ∷ xs) sight = ap (λ ws. RexWalk x sight ∷ ws) (each_parts xs sight)

types_parts : (xs : List Rex) → flaws.types (map rex_part xs) ≡ types_of xs
types_parts [] = refl
types_parts (x ∷ xs) = ap (λ ts. rex_type x ∷ ts) (types_parts xs)

trees_parts : (xs : List Rex) → flaws.trees (map rex_part xs) ≡ xs
trees_parts [] = refl
trees_parts (x ∷ xs) = ap (λ ys. x ∷ ys) (trees_parts xs)

length_parts : (xs : List Rex) → length (map rex_part xs) ≡ length xs
length_parts [] = refl
length_parts (x ∷ xs) = ap suc (length_parts xs)

some_parts : (xs : List Rex) → one_or_more (map rex_part xs) ≡ one_or_more xs
some_parts [] = refl
some_parts (x ∷ xs) = refl

-- several parts are one
as_one : (order : Order) (ws : List Walk) (before : Before) → at_node order [] ws before ≡ at_node order [] (walk_all ws ∷ []) before
as_one order ws before =
    node_then order [] ws before
    ∙ same (at_node order [] [] before)
    ∙ sym (node_then order [] (walk_all ws ∷ []) before)
  where
    same : (r : Result Before Flaw) → onward r (walk_all ws) ≡ onward r (walk_all (walk_all ws ∷ []))
    same (Ok after) = sym (alone (walk_all ws) after)
    same (Err flaw) = refl

-- one part and then several
both_as : (order : Order) (w : Walk) (ws : List Walk) (before : Before) → at_node order [] (w ∷ ws) before ≡ at_node order [] (w ∷ walk_all ws ∷ []) before
both_as order w ws before =
    node_then order [] (w ∷ ws) before
    ∙ same (at_node order [] [] before)
    ∙ sym (node_then order [] (w ∷ walk_all ws ∷ []) before)
  where
    next : (r : Result Before Flaw) → onward r (walk_all ws) ≡ onward r (walk_all (walk_all ws ∷ []))
    next (Ok after) = sym (alone (walk_all ws) after)
    next (Err flaw) = refl

    same : (r : Result Before Flaw) → onward r (walk_all (w ∷ ws)) ≡ onward r (walk_all (w ∷ walk_all ws ∷ []))
    same (Ok after) = next (w after)
    same (Err flaw) = refl

-- a node over a list of expressions
over_list : (order : Order) (xs : List Rex) (sight : Sight) (before : Before) → at_node order [] (each (map rex_part xs) sight) before ≡ at_node order [] (each_walk xs sight ∷ []) before
over_list order xs sight before = ap (λ ws. at_node order [] ws before) (each_parts xs sight) ∙ as_one order (map (λ x. RexWalk x sight) xs) before

typed_list : (typed : List SqlType → Bool) (shaped shaped' : Bool) (xs : List Rex) (sight : Sight) (before : Before) → shaped ≡ shaped' →
    at_node (record in_order { typed = typed (flaws.types (map rex_part xs)); shaped = shaped }) [] (each (map rex_part xs) sight) before
    ≡ at_node (record in_order { typed = typed (types_of xs); shaped = shaped' }) [] (each_walk xs sight ∷ []) before
typed_list typed shaped shaped' xs sight before e =
    over_list (record in_order { typed = typed (flaws.types (map rex_part xs)); shaped = shaped }) xs sight before
    ∙ ap (λ ts. at_node (record in_order { typed = typed ts; shaped = shaped }) [] (each_walk xs sight ∷ []) before) (types_parts xs)
    ∙ ap (λ b. at_node (record in_order { typed = typed (types_of xs); shaped = b }) [] (each_walk xs sight ∷ []) before) e

-- ---- the bindings of a Let

abbrev compute_part : Compute Rex → Compute RexPart
compute_part c = record { column = c.column; expr = rex_part c.expr }

let_parts : (cs : List (Compute Rex)) (x : Rex) (sight : Sight) → let_walks (map compute_part cs) (rex_part x) sight ≡ let_of rex_type RexWalk RexWalk cs x sight
let_parts [] x sight = refl
let_parts (c ∷ cs) x sight = ap (λ ws. compute_of rex_type RexWalk c sight ∷ ws) (let_parts cs x (with_column sight c.column))

-- ---- one level

abbrev pub rex_level : Rex-F Rex Scan → Sight → Walk
rex_level (t.Literal value ty) sight = at_node (record in_order { typed = fits ty value }) [] []
rex_level (t.Parameter name ty) sight = at_node in_order [] []
rex_level (t.Column column ty) sight = at_node (record in_order { seen = sees_typed column ty sight.inner }) [] []
rex_level (t.Outer column ty) sight = at_node (record in_order { seen = sees_typed column ty sight.outer }) [] []
rex_level (t.Call signature ty xs) sight =
    at_node (record in_order { typed = row_typed (call_row signature) (types_of xs) ty; shaped = row_shaped (call_row signature) xs }) [] (each_walk xs sight ∷ [])
rex_level (t.SafeCall signature ty xs) sight =
    at_node (record in_order { typed = row_typed (call_row signature) (types_of xs) ty; shaped = row_shaped (call_row signature) xs }) [] (each_walk xs sight ∷ [])
rex_level (t.Cast ty x) sight = at_node (record in_order { typed = castable (rex_type x) ty }) [] (RexWalk x sight ∷ [])
rex_level (t.SafeCast ty x) sight = at_node (record in_order { typed = castable (rex_type x) ty }) [] (RexWalk x sight ∷ [])
rex_level (t.If ty xs) sight = at_node (record in_order { typed = typed_as (types.Bool ∷ ty ∷ ty ∷ []) (types_of xs); shaped = length xs == 3 }) [] (each_walk xs sight ∷ [])
rex_level (t.Case ty xs) sight = at_node (record in_order { typed = case_typed ty (types_of xs); shaped = nat_lt 1 (length xs) }) [] (each_walk xs sight ∷ [])
rex_level (t.Coalesce ty xs) sight = at_node (record in_order { typed = all_of_type ty (types_of xs); shaped = one_or_more xs }) [] (each_walk xs sight ∷ [])
rex_level (t.And ty xs) sight = at_node (record in_order { typed = all_of_type types.Bool (ty ∷ types_of xs); shaped = one_or_more xs }) [] (each_walk xs sight ∷ [])
rex_level (t.Or ty xs) sight = at_node (record in_order { typed = all_of_type types.Bool (ty ∷ types_of xs); shaped = one_or_more xs }) [] (each_walk xs sight ∷ [])
rex_level (t.IfError ty xs) sight = at_node (record in_order { typed = all_of_type ty (types_of xs); shaped = length xs == 2 }) [] (each_walk xs sight ∷ [])
rex_level (t.IsError ty xs) sight = at_node (record in_order { typed = same_type ty types.Bool; shaped = length xs == 1 }) [] (each_walk xs sight ∷ [])
rex_level (t.NullIfError ty xs) sight = at_node (record in_order { typed = all_of_type ty (types_of xs); shaped = length xs == 1 }) [] (each_walk xs sight ∷ [])
rex_level (t.Raise ty xs) sight = at_node (record in_order { typed = typed_as (types.Text ∷ []) (types_of xs); shaped = length xs == 1 }) [] (each_walk xs sight ∷ [])
rex_level (t.InList sought xs) sight =
    at_node (record in_order { typed = all_of_type (rex_type sought) (types_of xs); shaped = one_or_more xs && comparable (rex_type sought) }) [] (RexWalk sought sight ∷ each_walk xs sight ∷ [])
rex_level (t.InArray sought array) sight =
    at_node (record in_order { typed = elements_coerce (rex_type array) (rex_type sought); shaped = comparable (rex_type sought) }) [] (RexWalk sought sight ∷ RexWalk array sight ∷ [])
rex_level (t.Let ty cs x) sight = at_node (record in_order { typed = same_type ty (rex_type x) }) [] (let_of rex_type RexWalk RexWalk cs x sight)
rex_level (t.MakeArray ty xs) sight = at_node (record in_order { typed = array_typed ty (types_of xs) }) [] (each_walk xs sight ∷ [])
rex_level (t.MakeStruct ty xs) sight = at_node (record in_order { typed = struct_typed ty (types_of xs); shaped = struct_shaped ty (types_of xs) }) [] (each_walk xs sight ∷ [])
rex_level (t.Field place ty x) sight = at_node (record in_order { typed = has_field place ty (rex_type x) }) [] (RexWalk x sight ∷ [])
rex_level (t.Index form ty array index) sight =
    at_node (record in_order { typed = is_type ty (element_of (rex_type array)) && same_type types.Int64 (rex_type index) }) [] (RexWalk array sight ∷ RexWalk index sight ∷ [])
rex_level (t.Scalar ty column outer scan) sight = at_node (subquery outer scan sight (takes column scan (same_type ty) any_type)) [] (ScanWalk scan (below sight) ∷ [])
rex_level (t.ArrayOf ty column outer scan) sight =
    at_node (subquery outer scan sight (takes column scan (λ taken. is_type taken (element_of ty)) any_type)) [] (ScanWalk scan (below sight) ∷ [])
rex_level (t.Exists ty outer scan) sight = at_node (subquery outer scan sight (record in_order { typed = same_type ty types.Bool })) [] (ScanWalk scan (below sight) ∷ [])
rex_level (t.InQuery ty column outer sought scan) sight =
    at_node (subquery outer scan sight (takes column scan (λ taken. same_type ty types.Bool && same_type taken (rex_type sought)) comparable)) [] (RexWalk sought sight ∷ ScanWalk scan (below sight) ∷ [])

leveled : (z : Rex-F Rex Scan) (sight : Sight) (before : Before) → rex_walk (map-Rex Rex Scan RexPart ScanPart rex_part scan_part z) sight before ≡ rex_level z sight before
leveled (t.Literal value ty) sight before = refl
leveled (t.Parameter name ty) sight before = refl
leveled (t.Column column ty) sight before = refl
leveled (t.Outer column ty) sight before = refl
leveled (t.Call signature ty xs) sight before = typed_list (λ ts. row_typed (call_row signature) ts ty) _ _ xs sight before (ap (row_shaped (call_row signature)) (trees_parts xs))
leveled (t.SafeCall signature ty xs) sight before = typed_list (λ ts. row_typed (call_row signature) ts ty) _ _ xs sight before (ap (row_shaped (call_row signature)) (trees_parts xs))
leveled (t.Cast ty x) sight before = refl
leveled (t.SafeCast ty x) sight before = refl
leveled (t.If ty xs) sight before = typed_list (typed_as (types.Bool ∷ ty ∷ ty ∷ [])) _ _ xs sight before (ap (λ n. n == 3) (length_parts xs))
leveled (t.Case ty xs) sight before = typed_list (case_typed ty) _ _ xs sight before (ap (nat_lt 1) (length_parts xs))
leveled (t.Coalesce ty xs) sight before = typed_list (all_of_type ty) _ _ xs sight before (some_parts xs)
leveled (t.And ty xs) sight before = typed_list (λ ts. all_of_type types.Bool (ty ∷ ts)) _ _ xs sight before (some_parts xs)
leveled (t.Or ty xs) sight before = typed_list (λ ts. all_of_type types.Bool (ty ∷ ts)) _ _ xs sight before (some_parts xs)
leveled (t.IfError ty xs) sight before = typed_list (all_of_type ty) _ _ xs sight before (ap (λ n. n == 2) (length_parts xs))
leveled (t.IsError ty xs) sight before = typed_list (λ ts. same_type ty types.Bool) _ _ xs sight before (ap (λ n. n == 1) (length_parts xs))
leveled (t.NullIfError ty xs) sight before = typed_list (all_of_type ty) _ _ xs sight before (ap (λ n. n == 1) (length_parts xs))
leveled (t.Raise ty xs) sight before = typed_list (typed_as (types.Text ∷ [])) _ _ xs sight before (ap (λ n. n == 1) (length_parts xs))
leveled (t.InList sought xs) sight before =
    ap (λ ts. at_node (record in_order { typed = all_of_type (rex_type sought) ts; shaped = one_or_more (map rex_part xs) && comparable (rex_type sought) }) [] (each (rex_part sought ∷ map rex_part xs) sight) before) (types_parts xs)
    ∙ ap (λ b. at_node (record in_order { typed = all_of_type (rex_type sought) (types_of xs); shaped = b && comparable (rex_type sought) }) [] (each (rex_part sought ∷ map rex_part xs) sight) before) (some_parts xs)
    ∙ ap (λ ws. at_node (record in_order { typed = all_of_type (rex_type sought) (types_of xs); shaped = one_or_more xs && comparable (rex_type sought) }) [] (RexWalk sought sight ∷ ws) before) (each_parts xs sight)
    ∙ both_as (record in_order { typed = all_of_type (rex_type sought) (types_of xs); shaped = one_or_more xs && comparable (rex_type sought) }) (RexWalk sought sight) (map (λ x. RexWalk x sight) xs) before
leveled (t.InArray sought array) sight before = refl
leveled (t.Let ty cs x) sight before = ap (λ ws. at_node (record in_order { typed = same_type ty (rex_type x) }) [] ws before) (let_parts cs x sight)
leveled (t.MakeArray ty xs) sight before = typed_list (array_typed ty) true true xs sight before refl
leveled (t.MakeStruct ty xs) sight before = typed_list (struct_typed ty) _ _ xs sight before (ap (struct_shaped ty) (types_parts xs))
leveled (t.Field place ty x) sight before = refl
leveled (t.Index form ty array index) sight before = refl
leveled (t.Scalar ty column outer scan) sight before = refl
leveled (t.ArrayOf ty column outer scan) sight before = refl
leveled (t.Exists ty outer scan) sight before = refl
leveled (t.InQuery ty column outer sought scan) sight before = refl

-- the walk of an expression of a known form
pub walks_rex : (x : Rex) (z : Rex-F Rex Scan) (sight : Sight) (before : Before) → out-Rex x ≡ z → RexWalk x sight before ≡ rex_level z sight before
walks_rex x z sight before e =
    ap (λ (w : Sight → Walk). w sight before) (walked_rex x) ∙ leveled (out-Rex x) sight before ∙ ap (λ y. rex_level y sight before) e
