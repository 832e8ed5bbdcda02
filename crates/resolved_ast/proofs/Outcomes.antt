-- Each tree has an outcome, over all tables and parameters, in all slots: one line a node.
use Rattle.std.proofs.Common.{ℕ, zero, suc, ◌≤◌, Bool, true, false, List, [], ◌∷◌, ◌++◌, map, Option, None, Some, Ok, refl, subst, arith}
use Rattle.sql_types.specs.declared.kinds.JoinKind.{JoinKind}
use Rattle.sql_types.specs.declared.rows.Param.{Param}
use Rattle.sql_types.specs.declared.value.Value.{Value}
use Rattle.sql_types.specs.Joined.{Row}
use Rattle.sql_types.specs.Outcome.{Outcome, just, Gather, all_give}
use Rattle.sql_types.specs.Takes.{count_value, elements}
use Rattle.sql_types.proofs.OutcomeLaws.{HasOutcome, then_some, both_some, gather_some}
use Rattle.sql_types.proofs.Orders.{arranged_refl}
use Rattle.sql_forms.specs.Rows.{in_any_order}
use Rattle.sql_forms.proofs.FormOutcomes.{given, add_outcome, gather_has, decided_has, if_has, case_has, first_has, caught_has, tried_has, list_has, pair_tests_has}
use Rattle.resolved_ast.specs.declared.rex.Compute.{Compute}
use Rattle.resolved_ast.specs.declared.rex.Rex.{Rex, out-Rex, map-Rex, size-Rex}
use Rattle.resolved_ast.specs.declared.rex.Rex.TheOpen.{Rex-F, Scan-F}
use Rattle.resolved_ast.specs.declared.rex.Rex.TheOpen as t
use Rattle.resolved_ast.specs.declared.scan.Cte.{Cte}
use Rattle.resolved_ast.specs.declared.scan.Scan.{Scan, out-Scan, map-Scan, size-Scan}
use Rattle.resolved_ast.specs.declared.scan.Tree.{Tree}
use Rattle.resolved_ast.specs.declared.scan.UnnestKind.{UnnestKind}
use Rattle.resolved_ast.specs.Columns.{ids_of, numbers}
use Rattle.resolved_ast.specs.Meanings.{TableRows, Means, has, with_offset, element_rows, let_means, rex_means, cte_means, with_means, kept_pairs, row_elements, unnest_table, join_tables, filter_table, project_row, project_table, scan_rows, reordered, scan_means, RexMeans, ScanMeans, TreeMeans}
use Rattle.resolved_ast.specs.Parts.{there}
use Rattle.resolved_ast.specs.Slots.{Slots, Table, within, with_cte}
use Rattle.resolved_ast.proofs.Smaller.{RexBelow, ScanBelow, smaller_rex, smaller_scan, some_rex, some_scan}
use Rattle.resolved_ast.proofs.Steps.{option_of}
use Rattle.resolved_ast.proofs.MeaningLaws.{meanings, rex_closes, scan_closes}

-- an outcome that is told
answered : {A : Type 0} (o : Outcome A) → HasOutcome (just o)
answered o = (o, refl)

offset_has : (offset : Bool) (place : ℕ) (row : Row) → HasOutcome (with_offset offset place row)
offset_has false place row = given row
offset_has true place row = then_some _ _ (answered (count_value place)) (λ n. given (row ++ n ∷ []))

elements_have : (offset : Bool) (place : ℕ) (xs : List Value) → HasOutcome (Gather (element_rows offset place xs))
elements_have offset place [] = (Ok [], all_give tt)
elements_have offset place (x ∷ xs) =
    let rest = elements_have offset (suc place) xs in
    add_outcome (with_offset offset place (x ∷ [])) (element_rows offset (suc place) xs) (offset_has offset place (x ∷ [])) rest.0 rest.1

orders_have : (rows : List Row) → HasOutcome (in_any_order rows)
orders_have rows = (Ok rows, (rows, arranged_refl rows, refl))

module _ (tables : TableRows) (params : List Param) where
  module _ {X Y : Type 0} (f : X → Rex) (h : Y → Scan) (p : Means) (rex_some : (x : X) (slots : Slots) → HasOutcome (p.rex (f x) slots)) (scan_some : (y : Y) (slots : Slots) → HasOutcome (p.scan (h y) slots)) where
    abbrev compute : Compute X → Compute Rex
    compute c = record { column = c.column; expr = f c.expr }

    abbrev cte : Cte Y → Cte Scan
    cte c = record { number = c.number; columns = c.columns; scan = h c.scan }

    -- several expressions in the same slots
    all_have : (slots : Slots) (xs : List X) → HasOutcome (Gather (map (λ x. p.rex x slots) (map f xs)))
    all_have slots xs = gather_has f (λ x. p.rex x slots) (λ x. rex_some x slots) xs

    let_has : (ids : List ℕ) (row : Row) (cs : List (Compute X)) (x : X) (slots : Slots) → HasOutcome (let_means tables params p ids row (map compute cs) (f x) slots)
    let_has ids row [] x slots = rex_some x (within slots ids row)
    let_has ids row (c ∷ cs) x slots = then_some _ _ (rex_some c.expr (within slots ids row)) (λ v. let_has (ids ++ c.column.id.0 ∷ []) (row ++ v ∷ []) cs x slots)

    pub rex_has : (z : Rex-F X Y) (slots : Slots) → HasOutcome (rex_means tables params p (map-Rex X Y Rex Scan f h z) slots)
    rex_has (t.Literal v ty) slots = given _
    rex_has (t.Parameter name ty) slots = given _
    rex_has (t.Column column ty) slots = given _
    rex_has (t.Outer column ty) slots = given _
    rex_has (t.Call s ty xs) slots = then_some _ _ (all_have slots xs) (λ vs. answered _)
    rex_has (t.SafeCall s ty xs) slots = then_some _ _ (all_have slots xs) (λ vs. answered _)
    rex_has (t.Cast ty x) slots = then_some _ _ (rex_some x slots) (λ v. answered _)
    rex_has (t.SafeCast ty x) slots = then_some _ _ (rex_some x slots) (λ v. answered _)
    rex_has (t.If ty xs) slots = if_has f (λ x. p.rex x slots) (λ x. rex_some x slots) xs
    rex_has (t.Case ty xs) slots = case_has f (λ x. p.rex x slots) (λ x. rex_some x slots) xs
    rex_has (t.Coalesce ty xs) slots = first_has f (λ x. p.rex x slots) (λ x. rex_some x slots) xs
    rex_has (t.And ty xs) slots = decided_has f (λ x. p.rex x slots) (λ x. rex_some x slots) false xs
    rex_has (t.Or ty xs) slots = decided_has f (λ x. p.rex x slots) (λ x. rex_some x slots) true xs
    rex_has (t.IfError ty xs) slots = caught_has f (λ x. p.rex x slots) (λ x. rex_some x slots) xs
    rex_has (t.IsError ty xs) slots = tried_has f (λ x. p.rex x slots) (λ x. rex_some x slots) xs
    rex_has (t.NullIfError ty xs) slots = caught_has f (λ x. p.rex x slots) (λ x. rex_some x slots) xs
    rex_has (t.Raise ty xs) slots = then_some _ _ (all_have slots xs) (λ vs. answered _)
    rex_has (t.InList x xs) slots = list_has f (λ x. p.rex x slots) (λ x. rex_some x slots) (p.rex (f x) slots) (rex_some x slots) xs
    rex_has (t.InArray x a) slots =
        then_some _ _ (both_some _ _ (rex_some x slots) (then_some _ _ (rex_some a slots) (λ xs. gather_some _ (λ v. answered _) (elements xs)))) (λ both. given _)
    rex_has (t.Let ty cs x) slots = let_has [] [] cs x slots
    rex_has (t.MakeArray ty xs) slots = then_some _ _ (all_have slots xs) (λ vs. given _)
    rex_has (t.MakeStruct ty xs) slots = then_some _ _ (all_have slots xs) (λ vs. given _)
    rex_has (t.Field place ty x) slots = then_some _ _ (rex_some x slots) (λ v. given _)
    rex_has (t.Index form ty a i) slots = then_some _ _ (both_some _ _ (rex_some a slots) (rex_some i slots)) (λ both. answered _)
    rex_has (t.Scalar ty c outer y) slots = then_some _ _ (scan_some y slots) (λ rows. answered _)
    rex_has (t.ArrayOf ty c outer y) slots = then_some _ _ (scan_some y slots) (λ rows. given _)
    rex_has (t.Exists ty outer y) slots = then_some _ _ (scan_some y slots) (λ rows. given _)
    rex_has (t.InQuery ty c outer x y) slots = then_some _ _ (both_some _ _ (rex_some x slots) (scan_some y slots)) (λ both. given _)

    with_has : (cs : List (Cte Y)) (y : Y) (slots : Slots) → HasOutcome (with_means tables params p (map cte cs) (h y) slots)
    with_has [] y slots = scan_some y slots
    with_has (c ∷ cs) y slots =
        let taken : HasOutcome (cte_means tables params p (cte c) slots) = then_some _ _ (scan_some c.scan slots) (λ u. given _) in
        let rest = with_has cs y (with_cte slots c.number taken.0) in
        (rest.0, (taken.0, taken.1, rest.1))

    pairs_have : (c : Option X) (ids : List ℕ) (slots : Slots) (lefts : List Row) (rights : List (List Row)) → HasOutcome (kept_pairs tables params p (option_of f c) ids slots lefts rights)
    pairs_have None ids slots lefts rights = given _
    pairs_have (Some x) ids slots lefts rights =
        then_some _ _ (pair_tests_has (λ left right. p.rex (f x) (within slots ids (left ++ right))) (λ left right. rex_some x (within slots ids (left ++ right))) lefts rights) (λ tests. given _)

    join_has : (kind : JoinKind) (c : Option X) (left right : Table) (slots : Slots) → HasOutcome (join_tables tables params p kind (option_of f c) left right slots)
    join_has kind c left right slots = then_some _ _ (pairs_have c (left.ids ++ right.ids) slots left.rows (map (λ l. right.rows) left.rows)) (λ pairs. given _)

    unnest_has : (kind : UnnestKind) (made : List ℕ) (offset : Bool) (a : X) (c : Option X) (u : Table) (slots : Slots) → HasOutcome (unnest_table tables params p kind made offset (f a) (option_of f c) u slots)
    unnest_has kind made offset a c u slots =
        then_some _ _ (gather_some (row_elements tables params p (f a) offset u.ids slots) (λ row. then_some _ _ (rex_some a (within slots u.ids row)) (λ xs. elements_have offset 0 (elements xs))) u.rows)
        (λ rights. then_some _ _ (pairs_have c (u.ids ++ made) slots u.rows rights) (λ pairs. given _))

    filter_has : (x : X) (u : Table) (slots : Slots) → HasOutcome (filter_table tables params p (f x) u slots)
    filter_has x u slots = then_some _ _ (gather_some (λ row. p.rex (f x) (within slots u.ids row)) (λ row. rex_some x (within slots u.ids row)) u.rows) (λ tests. given _)

    project_has : (listed : List ℕ) (cs : List (Compute X)) (u : Table) (slots : Slots) → HasOutcome (project_table tables params p listed (map compute cs) u slots)
    project_has listed cs u slots =
        then_some _ _ (gather_some (project_row tables params p listed (map compute cs) u.ids slots)
        (λ row. then_some _ _ (gather_has compute (λ (c : Compute Rex). p.rex c.expr (within slots u.ids row)) (λ c. rex_some c.expr (within slots u.ids row)) cs) (λ made. given _)) u.rows) (λ rows. given _)

    rows_have : (z : Scan-F X Y) (slots : Slots) → HasOutcome (scan_rows tables params p (map-Scan X Y Rex Scan f h z) slots)
    rows_have t.Single slots = given _
    rows_have (t.Table name number columns) slots = given _
    rows_have (t.With ctes y) slots = with_has ctes y slots
    rows_have (t.CteRef number columns) slots = then_some _ _ (answered _) (λ rows. given _)
    rows_have (t.Unnest kind element offset y a None) slots = then_some _ _ (scan_some y slots) (λ u. unnest_has kind (numbers (element ∷ there offset)) (has offset) a None u slots)
    rows_have (t.Unnest kind element offset y a (Some c)) slots = then_some _ _ (scan_some y slots) (λ u. unnest_has kind (numbers (element ∷ there offset)) (has offset) a (Some c) u slots)
    rows_have (t.Join kind y w None) slots = then_some _ _ (both_some _ _ (scan_some y slots) (scan_some w slots)) (λ both. join_has kind None both.0 both.1 slots)
    rows_have (t.Join kind y w (Some c)) slots = then_some _ _ (both_some _ _ (scan_some y slots) (scan_some w slots)) (λ both. join_has kind (Some c) both.0 both.1 slots)
    rows_have (t.Filter y x) slots = then_some _ _ (scan_some y slots) (λ u. filter_has x u slots)
    rows_have (t.Project columns y cs) slots = then_some _ _ (scan_some y slots) (λ u. project_has (ids_of columns) cs u slots)

    any_order : (u : Table) → HasOutcome (reordered tables params p u)
    any_order u = then_some _ _ (orders_have u.rows) (λ rows. given _)

    pub scan_has : (z : Scan-F X Y) (slots : Slots) → HasOutcome (scan_means tables params p (map-Scan X Y Rex Scan f h z) slots)
    scan_has (t.With ctes y) slots = rows_have (t.With ctes y) slots
    scan_has t.Single slots = then_some _ _ (rows_have t.Single slots) any_order
    scan_has (t.Table name number columns) slots = then_some _ _ (rows_have (t.Table name number columns) slots) any_order
    scan_has (t.CteRef number columns) slots = then_some _ _ (rows_have (t.CteRef number columns) slots) any_order
    scan_has (t.Unnest kind element offset y a c) slots = then_some _ _ (rows_have (t.Unnest kind element offset y a c) slots) any_order
    scan_has (t.Join kind y w c) slots = then_some _ _ (rows_have (t.Join kind y w c) slots) any_order
    scan_has (t.Filter y x) slots = then_some _ _ (rows_have (t.Filter y x) slots) any_order
    scan_has (t.Project columns y cs) slots = then_some _ _ (rows_have (t.Project columns y cs) slots) any_order

  -- ---- whole trees, by their size

  closed_rex : (x : Rex) (slots : Slots) → HasOutcome (rex_means tables params (meanings tables params) (out-Rex x) slots) → HasOutcome (RexMeans tables params x slots)
  closed_rex x slots some = (some.0, rex_closes tables params x slots some.0 some.1)

  closed_scan : (x : Scan) (slots : Slots) → HasOutcome (scan_means tables params (meanings tables params) (out-Scan x) slots) → HasOutcome (ScanMeans tables params x slots)
  closed_scan x slots some = (some.0, scan_closes tables params x slots some.0 some.1)

  mutual
    rex_at : (n : ℕ) (x : Rex) → size-Rex x ≤ n → (slots : Slots) → HasOutcome (RexMeans tables params x slots)
    rex_at zero x le slots = absurd (omega (arith, some_rex x))
    rex_at (suc n) x le slots =
        let y = smaller_rex x (size-Rex x) (omega arith) in
        closed_rex x slots (subst (λ z. HasOutcome (rex_means tables params (meanings tables params) z slots)) y.1
        (rex_has (λ (c : RexBelow (size-Rex x)). c.0) (λ (c : ScanBelow (size-Rex x)). c.0) (meanings tables params) (λ c s. rex_at n c.0 (omega (arith, c.1)) s) (λ c s. scan_at n c.0 (omega (arith, c.1)) s) y.0 slots))

    scan_at : (n : ℕ) (x : Scan) → size-Scan x ≤ n → (slots : Slots) → HasOutcome (ScanMeans tables params x slots)
    scan_at zero x le slots = absurd (omega (arith, some_scan x))
    scan_at (suc n) x le slots =
        let y = smaller_scan x (size-Scan x) (omega arith) in
        closed_scan x slots (subst (λ z. HasOutcome (scan_means tables params (meanings tables params) z slots)) y.1
        (scan_has (λ (c : RexBelow (size-Scan x)). c.0) (λ (c : ScanBelow (size-Scan x)). c.0) (meanings tables params) (λ c s. rex_at n c.0 (omega (arith, c.1)) s) (λ c s. scan_at n c.0 (omega (arith, c.1)) s) y.0 slots))

  pub rex_has_outcome : (x : Rex) (slots : Slots) → HasOutcome (RexMeans tables params x slots)
  rex_has_outcome x slots = rex_at (size-Rex x) x (omega arith) slots

  pub scan_has_outcome : (x : Scan) (slots : Slots) → HasOutcome (ScanMeans tables params x slots)
  scan_has_outcome x slots = scan_at (size-Scan x) x (omega arith) slots

  pub tree_has_outcome : (tree : Tree) (slots : Slots) → HasOutcome (TreeMeans tables params tree slots)
  tree_has_outcome tree slots = then_some _ _ (scan_has_outcome tree.scan slots) (λ u. given _)
