-- What a tree means: which outcomes each node permits, over what its parts mean.
use Rattle.std.specs.Prelude.{ℕ, suc, Bool, true, false, not, if◌then◌else◌, List, [], ◌∷◌, ◌++◌, map, length, slice_index_or, Option, None, Some}
use Rattle.sql_types.specs.declared.kinds.JoinKind.{JoinKind}
use Rattle.sql_types.specs.declared.kinds.JoinKind.TheVariants as join
use Rattle.sql_types.specs.declared.rows.Param.{Param}
use Rattle.sql_types.specs.declared.value.Value.{Value}
use Rattle.sql_types.specs.declared.value.Value.TheVariants as value
use Rattle.sql_types.specs.Joined.{Row, Pairs, joined}
use Rattle.sql_types.specs.Logic.{Decided}
use Rattle.sql_types.specs.Outcome.{Outcome, Meaning, gives, just, ◌>>=◌, Gather, Both}
use Rattle.sql_types.specs.Takes.{count_value, elements}
use Rattle.sql_names.specs.Words.{same_name}
use Rattle.sql_coerce.specs.Casts.{converted}
use Rattle.sql_numbers.specs.Integers.{or_null}
use Rattle.sql_builtins.specs.Applies.{apply}
use Rattle.sql_builtins.specs.declared.sig.SigId.TheVariants as sig
use Rattle.sql_forms.specs.Conditions.{if_means, case_means, first_not_null, caught_by, tried, among, list_means}
use Rattle.sql_forms.specs.Subscripts.{field_at, subscript}
use Rattle.sql_forms.specs.Rows.{in_any_order, kept, is_empty, single, pair_tests, true_pairs, all_pairs, joined_each}
use Rattle.resolved_ast.specs.declared.rex.Compute.{Compute}
use Rattle.resolved_ast.specs.declared.rex.Rex.{Rex}
use Rattle.resolved_ast.specs.declared.rex.Rex.TheOpen.{Rex-F, Scan-F}
use Rattle.resolved_ast.specs.declared.rex.Rex.TheOpen as t
use Rattle.resolved_ast.specs.declared.scan.Cte.{Cte}
use Rattle.resolved_ast.specs.declared.scan.Scan.{Scan}
use Rattle.resolved_ast.specs.declared.scan.Tree.{Tree}
use Rattle.resolved_ast.specs.declared.scan.UnnestKind.{UnnestKind}
use Rattle.resolved_ast.specs.declared.scan.UnnestKind.TheVariants as unnest
use Rattle.resolved_ast.specs.Columns.{computed_columns, ids_of, numbers, rex_type, element_type}
use Rattle.resolved_ast.specs.Parts.{there}
use Rattle.resolved_ast.specs.Slots.{Slots, Table, value_at, bound, within, picked, with_cte, cte_rows}
use Rattle.resolved_ast.specs.Tie.{Relation, tied}

-- the rows of each table, by its number in the catalog
abbrev pub TableRows : Type 0
TableRows = List (List Row)

-- what the parts mean
pub record Means : Type 1 where
  pub rex : Rex → Slots → Meaning Value
  pub scan : Scan → Slots → Meaning Table

-- the value of the parameter of a name
abbrev pub param_value : List Param → List ℕ → Value
param_value [] name = value.Null
param_value (p ∷ params) name = if same_name p.name name then p.value else param_value params name

-- the values of one column
abbrev pub column_values : ℕ → Table → List Value
column_values id t = map (λ row. value_at (bound t.ids row []) id) t.rows

-- ---- UNNEST

-- the offset counts from 0; one that INT64 doesn't hold is OUT_OF_RANGE
abbrev pub with_offset : Bool → ℕ → Row → Meaning Row
with_offset false place row = gives row
with_offset true place row = just (count_value place) >>= (λ n. gives (row ++ n ∷ []))

-- a row for each element, from a place on
abbrev pub element_rows : Bool → ℕ → List Value → List (Meaning Row)
element_rows offset place [] = []
element_rows offset place (x ∷ xs) = with_offset offset place (x ∷ []) ∷ element_rows offset (suc place) xs

abbrev pub join_kind : UnnestKind → JoinKind
join_kind unnest.Inner = join.Inner
join_kind unnest.Left = join.Left

abbrev pub has : {A : Type 0} → Option A → Bool
has None = false
has (Some x) = true

module _ (tables : TableRows) (params : List Param) (p : Means) where
  -- several expressions in the same slots
  abbrev pub each : List Rex → Slots → List (Meaning Value)
  each xs slots = map (λ x. p.rex x slots) xs

  -- ---- expressions

  -- The columns of a Let are computed one after another, each in sight of those before it; the first fault ends.
  abbrev pub let_means : List ℕ → Row → List (Compute Rex) → Rex → Slots → Meaning Value
  let_means ids row [] x slots = p.rex x (within slots ids row)
  let_means ids row (c ∷ cs) x slots =
      p.rex c.expr (within slots ids row) >>= (λ v. let_means (ids ++ c.column.id.0 ∷ []) (row ++ v ∷ []) cs x slots)

  abbrev pub rex_means : Rex-F Rex Scan → Slots → Meaning Value
  rex_means (t.Literal v ty) slots = gives v
  rex_means (t.Parameter name ty) slots = gives (param_value params name)
  rex_means (t.Column column ty) slots = gives (value_at slots.values column.id.0)
  rex_means (t.Outer column ty) slots = gives (value_at slots.values column.id.0)
  -- the arguments gather, and the row of the signature is applied to them
  rex_means (t.Call signature ty arguments) slots = Gather (each arguments slots) >>= (λ xs. just (apply signature xs))
  -- NULL where the function faults, after its arguments gave values
  rex_means (t.SafeCall signature ty arguments) slots = Gather (each arguments slots) >>= (λ xs. just (or_null (apply signature xs)))
  rex_means (t.Cast ty x) slots = p.rex x slots >>= (λ v. just (converted (rex_type x) ty v))
  rex_means (t.SafeCast ty x) slots = p.rex x slots >>= (λ v. just (or_null (converted (rex_type x) ty v)))
  -- only what is chosen is evaluated
  rex_means (t.If ty operands) slots = if_means (each operands slots)
  rex_means (t.Case ty operands) slots = case_means (each operands slots)
  rex_means (t.Coalesce ty operands) slots = first_not_null (each operands slots)
  -- FALSE decides an AND, and TRUE an OR
  rex_means (t.And ty operands) slots = Decided false (each operands slots)
  rex_means (t.Or ty operands) slots = Decided true (each operands slots)
  -- every fault of what is tried is caught
  rex_means (t.IfError ty operands) slots = caught_by (each operands slots)
  rex_means (t.IsError ty operands) slots = tried (each operands slots)
  rex_means (t.NullIfError ty operands) slots = caught_by (each operands slots)
  rex_means (t.Raise ty operands) slots = Gather (each operands slots) >>= (λ xs. just (apply sig.Error xs))
  -- the search value once, and then OR over its equality with the elements
  rex_means (t.InList sought list) slots = list_means (p.rex sought slots) (each list slots)
  -- the search value and the array gather, and the elements are compared in the type of the search value; a NULL array counts as
  -- nothing
  rex_means (t.InArray sought array) slots =
      Both (p.rex sought slots) (p.rex array slots >>= (λ xs. Gather (map (λ x. just (converted (element_type (rex_type array)) (rex_type sought) x)) (elements xs))))
      >>= (λ both. gives (among both.0 both.1))
  rex_means (t.Let ty bindings x) slots = let_means [] [] bindings x slots
  rex_means (t.MakeArray ty parts) slots = Gather (each parts slots) >>= (λ xs. gives (value.Array xs))
  rex_means (t.MakeStruct ty parts) slots = Gather (each parts slots) >>= (λ xs. gives (value.Struct xs))
  rex_means (t.Field place ty x) slots = p.rex x slots >>= (λ v. gives (field_at place v))
  rex_means (t.Index form ty array index) slots = Both (p.rex array slots) (p.rex index slots) >>= (λ both. just (subscript form both.0 both.1))
  -- NULL for no row, the value for one, and a fault for more
  rex_means (t.Scalar ty column outer scan) slots = p.scan scan slots >>= (λ rows. just (single (column_values column.id.0 rows)))
  -- the rows in their order
  rex_means (t.ArrayOf ty column outer scan) slots = p.scan scan slots >>= (λ rows. gives (value.Array (column_values column.id.0 rows)))
  rex_means (t.Exists ty outer scan) slots = p.scan scan slots >>= (λ t. gives (value.Bool (not (is_empty t.rows))))
  -- the search value and the whole query gather
  rex_means (t.InQuery ty column outer sought scan) slots =
      Both (p.rex sought slots) (p.scan scan slots) >>= (λ both. gives (among both.0 (column_values column.id.0 both.1)))

  -- ---- scans

  -- a query of a WITH list: the rows of its columns
  abbrev pub cte_means : Cte Scan → Slots → Meaning (List Row)
  cte_means c slots = p.scan c.scan slots >>= (λ t. gives (map (λ row. picked (ids_of c.columns) (bound t.ids row [])) t.rows))

  -- each takes one outcome, which may stay unread, and sees those before it
  abbrev pub with_means : List (Cte Scan) → Scan → Slots → Meaning Table
  with_means [] scan slots o = p.scan scan slots o
  with_means (c ∷ ctes) scan slots o = (taken : Outcome (List Row)) × cte_means c slots taken × with_means ctes scan (with_cte slots c.number taken) o

  -- which pairs a join keeps: those for which the condition is TRUE; without one, every pair
  abbrev pub kept_pairs : Option Rex → List ℕ → Slots → List Row → List (List Row) → Meaning Pairs
  kept_pairs None ids slots lefts rights = gives (all_pairs rights)
  kept_pairs (Some test) ids slots lefts rights =
      pair_tests (λ left right. p.rex test (within slots ids (left ++ right))) lefts rights >>= (λ tests. gives (true_pairs tests))

  abbrev pub join_tables : JoinKind → Option Rex → Table → Table → Slots → Meaning Table
  join_tables kind condition left right slots =
      kept_pairs condition (left.ids ++ right.ids) slots left.rows (map (λ l. right.rows) left.rows) >>= (λ pairs.
      gives (record { ids = left.ids ++ right.ids; rows = joined kind (length left.ids) (length right.ids) left.rows right.rows pairs }))

  -- the elements of an array that may depend on the row
  abbrev pub row_elements : Rex → Bool → List ℕ → Slots → Row → Meaning (List Row)
  row_elements array offset ids slots row = p.rex array (within slots ids row) >>= (λ xs. Gather (element_rows offset 0 (elements xs)))

  -- the arrays of all rows gather, and then the conditions of all pairs
  abbrev pub unnest_table : UnnestKind → List ℕ → Bool → Rex → Option Rex → Table → Slots → Meaning Table
  unnest_table kind made offset array condition t slots =
      Gather (map (row_elements array offset t.ids slots) t.rows) >>= (λ rights.
      kept_pairs condition (t.ids ++ made) slots t.rows rights >>= (λ pairs.
      gives (record { ids = t.ids ++ made; rows = joined_each (join_kind kind) (length made) t.rows rights pairs })))

  -- the conditions of all rows gather, and those rows stay for which it is TRUE
  abbrev pub filter_table : Rex → Table → Slots → Meaning Table
  filter_table condition t slots =
      Gather (map (λ row. p.rex condition (within slots t.ids row)) t.rows) >>= (λ tests. gives (record { ids = t.ids; rows = kept t.rows tests }))

  -- a row's columns are computed in it, and those listed are taken of the row and of what was computed
  abbrev pub project_row : List ℕ → List (Compute Rex) → List ℕ → Slots → Row → Meaning Row
  project_row listed computed ids slots row =
      Gather (map (λ c. p.rex c.expr (within slots ids row)) computed) >>= (λ made.
      gives (picked listed (bound (numbers (computed_columns computed)) made (bound ids row []))))

  -- the rows gather
  abbrev pub project_table : List ℕ → List (Compute Rex) → Table → Slots → Meaning Table
  project_table listed computed t slots =
      Gather (map (project_row listed computed t.ids slots) t.rows) >>= (λ rows. gives (record { ids = listed; rows = rows }))

  -- the rows of a scan in some order
  abbrev pub scan_rows : Scan-F Rex Scan → Slots → Meaning Table
  scan_rows t.Single slots = gives (record { ids = []; rows = [] ∷ [] })
  scan_rows (t.Table name number columns) slots = gives (record { ids = numbers columns; rows = slice_index_or tables number [] })
  scan_rows (t.With ctes scan) slots = with_means ctes scan slots
  scan_rows (t.CteRef number columns) slots = just (cte_rows slots number) >>= (λ rows. gives (record { ids = numbers columns; rows = rows }))
  scan_rows (t.Unnest kind element offset scan array condition) slots =
      p.scan scan slots >>= (λ t. unnest_table kind (numbers (element ∷ there offset)) (has offset) array condition t slots)
  -- the two sides gather
  scan_rows (t.Join kind left right condition) slots =
      Both (p.scan left slots) (p.scan right slots) >>= (λ both. join_tables kind condition both.0 both.1 slots)
  scan_rows (t.Filter scan condition) slots = p.scan scan slots >>= (λ t. filter_table condition t slots)
  scan_rows (t.Project columns scan computed) slots = p.scan scan slots >>= (λ t. project_table (ids_of columns) computed t slots)

  -- a table with its rows in any order
  abbrev pub reordered : Table → Meaning Table
  reordered t = in_any_order t.rows >>= (λ rows. gives (record { ids = t.ids; rows = rows }))

  -- With keeps the order that its scan gives. Every other scan permits every order of its rows.
  abbrev pub keeps_order : Scan-F Rex Scan → Bool
  keeps_order (t.With ctes scan) = true
  keeps_order _ = false

  abbrev pub ordered : Bool → Meaning Table → Meaning Table
  ordered true m = m
  ordered false m = m >>= reordered

  abbrev pub scan_means : Scan-F Rex Scan → Slots → Meaning Table
  scan_means scan slots = ordered (keeps_order scan) (scan_rows scan slots)

-- ---- whole trees

-- the relation between slots and outcomes, and back
abbrev pub RexOutcome : Type 0
RexOutcome = Slots × Outcome Value

abbrev pub ScanOutcome : Type 0
ScanOutcome = Slots × Outcome Table

abbrev pub parts_of : Relation RexOutcome ScanOutcome → Means
parts_of r = record { rex = λ x slots o. r.rex x (slots, o); scan = λ x slots o. r.scan x (slots, o) }

module _ (tables : TableRows) (params : List Param) where
  abbrev pub RexCase : Relation RexOutcome ScanOutcome → Rex-F Rex Scan → RexOutcome → Type 0
  RexCase r x at = rex_means tables params (parts_of r) x at.0 at.1

  abbrev pub ScanCase : Relation RexOutcome ScanOutcome → Scan-F Rex Scan → ScanOutcome → Type 0
  ScanCase r x at = scan_means tables params (parts_of r) x at.0 at.1

  -- an expression, and a scan, in some slots
  abbrev pub RexMeans : Rex → Slots → Meaning Value
  RexMeans x slots o = (tied RexOutcome ScanOutcome RexCase ScanCase).rex x (slots, o)

  abbrev pub ScanMeans : Scan → Slots → Meaning Table
  ScanMeans x slots o = (tied RexOutcome ScanOutcome RexCase ScanCase).scan x (slots, o)

  -- a whole tree, by the columns of its answer; Output keeps the order that its scan gives
  abbrev pub TreeMeans : Tree → Slots → Meaning (List Row)
  TreeMeans tree slots =
      ScanMeans tree.scan slots >>= (λ t. gives (map (λ row. picked (map (λ o. o.column.id.0) tree.outputs) (bound t.ids row [])) t.rows))
