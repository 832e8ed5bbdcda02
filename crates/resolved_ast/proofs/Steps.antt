-- Where the parts of a node mean no more than those of another node of its form, the node means no more: one line a node.
use Rattle.std.proofs.Common.{◌≡◌, ℕ, Bool, true, false, List, [], ◌∷◌, ◌++◌, map, Option, None, Some, Ok, refl, ap, ◌∙◌}
use Rattle.sql_types.specs.declared.rows.Param.{Param}
use Rattle.sql_types.specs.declared.kinds.JoinKind.{JoinKind}
use Rattle.sql_types.specs.Takes.{elements}
use Rattle.sql_types.specs.Joined.{Row}
use Rattle.sql_types.specs.Outcome.{just, Below}
use Rattle.sql_types.proofs.OutcomeLaws.{then_below, both_below, gather_below}
use Rattle.sql_coerce.specs.Casts.{converted}
use Rattle.sql_numbers.specs.Integers.{or_null}
use Rattle.sql_forms.proofs.FormLaws.{same, gather_le, decided_le, if_le, case_le, first_le, caught_by_le, tried_le, list_le, pair_tests_le}
use Rattle.resolved_ast.specs.declared.column.MadeColumn.{MadeColumn}
use Rattle.resolved_ast.specs.declared.rex.Compute.{Compute}
use Rattle.resolved_ast.specs.declared.rex.Rex.{Rex, map-Rex}
use Rattle.resolved_ast.specs.declared.rex.Rex.TheOpen.{Rex-F, Scan-F}
use Rattle.resolved_ast.specs.declared.rex.Rex.TheOpen as t
use Rattle.resolved_ast.specs.declared.scan.Cte.{Cte}
use Rattle.resolved_ast.specs.declared.scan.Scan.{Scan, map-Scan}
use Rattle.resolved_ast.specs.declared.scan.UnnestKind.{UnnestKind}
use Rattle.resolved_ast.specs.Columns.{computed_columns, ids_of, numbers, rex_type, element_type}
use Rattle.resolved_ast.specs.Parts.{there}
use Rattle.resolved_ast.specs.Meanings.{TableRows, Means, has, let_means, rex_means, with_means, kept_pairs, row_elements, unnest_table, join_tables, filter_table, project_row, project_table, scan_rows, scan_means}
use Rattle.resolved_ast.specs.Slots.{Slots, Table, bound, within, picked, with_cte}

abbrev pub option_of : {A B : Type 0} → (A → B) → Option A → Option B
option_of f None = None
option_of f (Some x) = Some (f x)

-- the parts stand under names, once as the new parts and once as the old; a new part has the old one's type
module _ (tables : TableRows) (params : List Param) {X Y : Type 0} (f g : X → Rex) (h k : Y → Scan) (p q : Means)
    (rex_le : (x : X) (slots : Slots) → Below (p.rex (f x) slots) (q.rex (g x) slots))
    (scan_le : (y : Y) (slots : Slots) → Below (p.scan (h y) slots) (q.scan (k y) slots))
    (types : (x : X) → rex_type (f x) ≡ rex_type (g x)) where
  abbrev new_compute : Compute X → Compute Rex
  new_compute c = record { column = c.column; expr = f c.expr }

  abbrev old_compute : Compute X → Compute Rex
  old_compute c = record { column = c.column; expr = g c.expr }

  abbrev new_cte : Cte Y → Cte Scan
  new_cte c = record { number = c.number; columns = c.columns; scan = h c.scan }

  abbrev old_cte : Cte Y → Cte Scan
  old_cte c = record { number = c.number; columns = c.columns; scan = k c.scan }

  let_le : (ids : List ℕ) (row : Row) (cs : List (Compute X)) (x : X) (slots : Slots) →
      Below (let_means tables params p ids row (map new_compute cs) (f x) slots) (let_means tables params q ids row (map old_compute cs) (g x) slots)
  let_le ids row [] x slots = rex_le x (within slots ids row)
  let_le ids row (c ∷ cs) x slots = then_below (rex_le c.expr (within slots ids row)) (λ v. let_le (ids ++ c.column.id.0 ∷ []) (row ++ v ∷ []) cs x slots)

  pub rex_means_le : (z : Rex-F X Y) (slots : Slots) → Below (rex_means tables params p (map-Rex X Y Rex Scan f h z) slots) (rex_means tables params q (map-Rex X Y Rex Scan g k z) slots)
  rex_means_le (t.Literal v ty) slots = same _
  rex_means_le (t.Parameter name ty) slots = same _
  rex_means_le (t.Column column ty) slots = same _
  rex_means_le (t.Outer column ty) slots = same _
  rex_means_le (t.Call s ty xs) slots = then_below (gather_le f g (λ x. p.rex x slots) (λ x. q.rex x slots) (λ x. rex_le x slots) xs) (λ vs. same _)
  rex_means_le (t.SafeCall s ty xs) slots = then_below (gather_le f g (λ x. p.rex x slots) (λ x. q.rex x slots) (λ x. rex_le x slots) xs) (λ vs. same _)
  rex_means_le (t.Cast ty x) slots = then_below (rex_le x slots) (λ v o is. is ∙ ap (λ from. converted from ty v) (types x))
  rex_means_le (t.SafeCast ty x) slots = then_below (rex_le x slots) (λ v o is. is ∙ ap (λ from. or_null (converted from ty v)) (types x))
  rex_means_le (t.If ty xs) slots = if_le f g (λ x. p.rex x slots) (λ x. q.rex x slots) (λ x. rex_le x slots) xs
  rex_means_le (t.Case ty xs) slots = case_le f g (λ x. p.rex x slots) (λ x. q.rex x slots) (λ x. rex_le x slots) xs
  rex_means_le (t.Coalesce ty xs) slots = first_le f g (λ x. p.rex x slots) (λ x. q.rex x slots) (λ x. rex_le x slots) xs
  rex_means_le (t.And ty xs) slots = decided_le f g (λ x. p.rex x slots) (λ x. q.rex x slots) (λ x. rex_le x slots) false xs
  rex_means_le (t.Or ty xs) slots = decided_le f g (λ x. p.rex x slots) (λ x. q.rex x slots) (λ x. rex_le x slots) true xs
  rex_means_le (t.IfError ty xs) slots = caught_by_le f g (λ x. p.rex x slots) (λ x. q.rex x slots) (λ x. rex_le x slots) xs
  rex_means_le (t.IsError ty xs) slots = tried_le f g (λ x. p.rex x slots) (λ x. q.rex x slots) (λ x. rex_le x slots) xs
  rex_means_le (t.NullIfError ty xs) slots = caught_by_le f g (λ x. p.rex x slots) (λ x. q.rex x slots) (λ x. rex_le x slots) xs
  rex_means_le (t.Raise ty xs) slots = then_below (gather_le f g (λ x. p.rex x slots) (λ x. q.rex x slots) (λ x. rex_le x slots) xs) (λ vs. same _)
  rex_means_le (t.InList x xs) slots = list_le f g (λ x. p.rex x slots) (λ x. q.rex x slots) (λ x. rex_le x slots) (p.rex (f x) slots) (q.rex (g x) slots) (rex_le x slots) xs
  rex_means_le (t.InArray x a) slots =
      then_below
      (both_below (rex_le x slots) (then_below (rex_le a slots) (λ xs. gather_below (λ v. just (converted (element_type (rex_type (f a))) (rex_type (f x)) v)) (λ v. just (converted (element_type (rex_type (g a))) (rex_type (g x)) v))
      (λ v o is. is ∙ ap (λ from. converted (element_type from) (rex_type (f x)) v) (types a) ∙ ap (λ to. converted (element_type (rex_type (g a))) to v) (types x)) (elements xs))))
      (λ both. same _)
  rex_means_le (t.Let ty cs x) slots = let_le [] [] cs x slots
  rex_means_le (t.MakeArray ty xs) slots = then_below (gather_le f g (λ x. p.rex x slots) (λ x. q.rex x slots) (λ x. rex_le x slots) xs) (λ vs. same _)
  rex_means_le (t.MakeStruct ty xs) slots = then_below (gather_le f g (λ x. p.rex x slots) (λ x. q.rex x slots) (λ x. rex_le x slots) xs) (λ vs. same _)
  rex_means_le (t.Field place ty x) slots = then_below (rex_le x slots) (λ v. same _)
  rex_means_le (t.Index form ty a i) slots = then_below (both_below (rex_le a slots) (rex_le i slots)) (λ both. same _)
  rex_means_le (t.Scalar ty c outer y) slots = then_below (scan_le y slots) (λ rows. same _)
  rex_means_le (t.ArrayOf ty c outer y) slots = then_below (scan_le y slots) (λ rows. same _)
  rex_means_le (t.Exists ty outer y) slots = then_below (scan_le y slots) (λ rows. same _)
  rex_means_le (t.InQuery ty c outer x y) slots = then_below (both_below (rex_le x slots) (scan_le y slots)) (λ both. same _)

  -- ---- scans

  with_le : (cs : List (Cte Y)) (y : Y) (slots : Slots) → Below (with_means tables params p (map new_cte cs) (h y) slots) (with_means tables params q (map old_cte cs) (k y) slots)
  with_le [] y slots o w = scan_le y slots o w
  with_le (c ∷ cs) y slots o w = (w.0, then_below (scan_le c.scan slots) (λ t. same _) w.0 w.1, with_le cs y (with_cte slots c.number w.0) o w.2)

  pairs_le : (c : Option X) (ids : List ℕ) (slots : Slots) (lefts : List Row) (rights : List (List Row)) →
      Below (kept_pairs tables params p (option_of f c) ids slots lefts rights) (kept_pairs tables params q (option_of g c) ids slots lefts rights)
  pairs_le None ids slots lefts rights = same _
  pairs_le (Some x) ids slots lefts rights =
      then_below (pair_tests_le (λ left right. p.rex (f x) (within slots ids (left ++ right))) (λ left right. q.rex (g x) (within slots ids (left ++ right))) (λ left right. rex_le x (within slots ids (left ++ right))) lefts rights) (λ tests. same _)

  join_le : (kind : JoinKind) (c : Option X) (left right : Table) (slots : Slots) → Below (join_tables tables params p kind (option_of f c) left right slots) (join_tables tables params q kind (option_of g c) left right slots)
  join_le kind c left right slots = then_below (pairs_le c (left.ids ++ right.ids) slots left.rows (map (λ l. right.rows) left.rows)) (λ pairs. same _)

  unnest_le : (kind : UnnestKind) (made : List ℕ) (offset : Bool) (a : X) (c : Option X) (t : Table) (slots : Slots) →
      Below (unnest_table tables params p kind made offset (f a) (option_of f c) t slots) (unnest_table tables params q kind made offset (g a) (option_of g c) t slots)
  unnest_le kind made offset a c t slots =
      then_below (gather_below (row_elements tables params p (f a) offset t.ids slots) (row_elements tables params q (g a) offset t.ids slots) (λ row. then_below (rex_le a (within slots t.ids row)) (λ xs. same _)) t.rows)
      (λ rights. then_below (pairs_le c (t.ids ++ made) slots t.rows rights) (λ pairs. same _))

  filter_le : (x : X) (t : Table) (slots : Slots) → Below (filter_table tables params p (f x) t slots) (filter_table tables params q (g x) t slots)
  filter_le x t slots = then_below (gather_below (λ row. p.rex (f x) (within slots t.ids row)) (λ row. q.rex (g x) (within slots t.ids row)) (λ row. rex_le x (within slots t.ids row)) t.rows) (λ tests. same _)

  same_columns : (cs : List (Compute X)) → computed_columns (map new_compute cs) ≡ computed_columns (map old_compute cs)
  same_columns [] = refl
  same_columns (c ∷ cs) = ap (λ columns. c.column ∷ columns) (same_columns cs)

  row_le : (listed : List ℕ) (cs : List (Compute X)) (ids : List ℕ) (slots : Slots) (row : Row) → Below (project_row tables params p listed (map new_compute cs) ids slots row) (project_row tables params q listed (map old_compute cs) ids slots row)
  row_le listed cs ids slots row =
      then_below
      (gather_le new_compute old_compute (λ (c : Compute Rex). p.rex c.expr (within slots ids row)) (λ (c : Compute Rex). q.rex c.expr (within slots ids row)) (λ c. rex_le c.expr (within slots ids row)) cs)
      (λ made o is. is ∙ ap (λ (columns : List MadeColumn). Ok (picked listed (bound (numbers columns) made (bound ids row [])))) (same_columns cs))

  project_le : (listed : List ℕ) (cs : List (Compute X)) (t : Table) (slots : Slots) → Below (project_table tables params p listed (map new_compute cs) t slots) (project_table tables params q listed (map old_compute cs) t slots)
  project_le listed cs t slots =
      then_below (gather_below (project_row tables params p listed (map new_compute cs) t.ids slots) (project_row tables params q listed (map old_compute cs) t.ids slots) (row_le listed cs t.ids slots) t.rows) (λ rows. same _)

  rows_le : (z : Scan-F X Y) (slots : Slots) → Below (scan_rows tables params p (map-Scan X Y Rex Scan f h z) slots) (scan_rows tables params q (map-Scan X Y Rex Scan g k z) slots)
  rows_le t.Single slots = same _
  rows_le (t.Table name number columns) slots = same _
  rows_le (t.With ctes y) slots = with_le ctes y slots
  rows_le (t.CteRef number columns) slots = same _
  rows_le (t.Unnest kind element offset y a None) slots = then_below (scan_le y slots) (λ u. unnest_le kind (numbers (element ∷ there offset)) (has offset) a None u slots)
  rows_le (t.Unnest kind element offset y a (Some c)) slots = then_below (scan_le y slots) (λ u. unnest_le kind (numbers (element ∷ there offset)) (has offset) a (Some c) u slots)
  rows_le (t.Join kind y w None) slots = then_below (both_below (scan_le y slots) (scan_le w slots)) (λ both. join_le kind None both.0 both.1 slots)
  rows_le (t.Join kind y w (Some c)) slots = then_below (both_below (scan_le y slots) (scan_le w slots)) (λ both. join_le kind (Some c) both.0 both.1 slots)
  rows_le (t.Filter y x) slots = then_below (scan_le y slots) (λ u. filter_le x u slots)
  rows_le (t.Project columns y cs) slots = then_below (scan_le y slots) (λ u. project_le (ids_of columns) cs u slots)

  pub scan_means_le : (z : Scan-F X Y) (slots : Slots) → Below (scan_means tables params p (map-Scan X Y Rex Scan f h z) slots) (scan_means tables params q (map-Scan X Y Rex Scan g k z) slots)
  scan_means_le (t.With ctes y) slots = rows_le (t.With ctes y) slots
  scan_means_le t.Single slots = then_below (rows_le t.Single slots) (λ u. same _)
  scan_means_le (t.Table name number columns) slots = then_below (rows_le (t.Table name number columns) slots) (λ u. same _)
  scan_means_le (t.CteRef number columns) slots = then_below (rows_le (t.CteRef number columns) slots) (λ u. same _)
  scan_means_le (t.Unnest kind element offset y a c) slots = then_below (rows_le (t.Unnest kind element offset y a c) slots) (λ u. same _)
  scan_means_le (t.Join kind y w c) slots = then_below (rows_le (t.Join kind y w c) slots) (λ u. same _)
  scan_means_le (t.Filter y x) slots = then_below (rows_le (t.Filter y x) slots) (λ u. same _)
  scan_means_le (t.Project columns y cs) slots = then_below (rows_le (t.Project columns y cs) slots) (λ u. same _)
