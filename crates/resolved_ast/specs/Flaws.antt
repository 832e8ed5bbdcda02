-- Valid trees, and the first flaw of every other one. Nodes are numbered from 0 in the order of the tree's text; the first
-- flaw is that of the first faulty node, and of several at one node it is the first in the order of `FlawKind`.
use Rattle.std.specs.Prelude.{◌≡◌, ℕ, suc, ◌==◌, nat_lt, Bool, true, false, ◌&&◌, ◌||◌, not, is_some, if◌then◌else◌, List, [], ◌∷◌, ◌++◌, map, length, slice_get, Option, None, Some, Result, Ok, Err}
use Rattle.sql_types.specs.declared.kinds.JoinKind.{JoinKind}
use Rattle.sql_types.specs.declared.kinds.JoinKind.TheVariants as join
use Rattle.sql_types.specs.declared.sql_type.Named.{Named}
use Rattle.sql_types.specs.declared.sql_type.SqlType.{SqlType, out-SqlType}
use Rattle.sql_types.specs.declared.sql_type.SqlType.TheVariants as sql
use Rattle.sql_types.specs.declared.sql_type.SqlType.TheOpen as type
use Rattle.sql_types.specs.Comparable.{comparable}
use Rattle.sql_types.specs.Fits.{fits}
use Rattle.sql_types.specs.SameType.{same_type}
use Rattle.sql_coerce.specs.Casts.{castable}
use Rattle.sql_coerce.specs.Coercions.{other_coerces}
use Rattle.resolved_ast.specs.declared.column.ColumnRef.{ColumnRef}
use Rattle.resolved_ast.specs.declared.column.MadeColumn.{MadeColumn}
use Rattle.resolved_ast.specs.declared.flaw.Flaw.{Flaw}
use Rattle.resolved_ast.specs.declared.flaw.FlawKind.{FlawKind}
use Rattle.resolved_ast.specs.declared.flaw.FlawKind.TheVariants as flaw
use Rattle.resolved_ast.specs.declared.rex.Compute.{Compute}
use Rattle.resolved_ast.specs.declared.rex.Rex.{Rex, para-Rex}
use Rattle.resolved_ast.specs.declared.rex.Rex.TheOpen.{Rex-F, Scan-F}
use Rattle.resolved_ast.specs.declared.rex.Rex.TheOpen as t
use Rattle.resolved_ast.specs.declared.scan.Cte.{Cte}
use Rattle.resolved_ast.specs.declared.scan.Output.{Output}
use Rattle.resolved_ast.specs.declared.scan.Scan.{Scan, para-Scan}
use Rattle.resolved_ast.specs.declared.scan.Tree.{Tree}
use Rattle.resolved_ast.specs.Columns.{column_of, is_named, columns, computed_columns, rex_type, element_of, numbers, among, free}
use Rattle.resolved_ast.specs.Parts.{there}
use Rattle.resolved_ast.specs.Signatures.{call_row, row_typed, row_shaped, typed_as}

-- ---- what is in sight

-- a query of a WITH list: its number, and the types of its columns
pub record CteSeen : Type 0 where
  pub number : ℕ
  pub types : List SqlType

-- the columns of the query in which a node stands, those of the queries outside of it, and the queries of WITH lists
pub record Sight : Type 0 where
  pub inner : List MadeColumn
  pub outer : List MadeColumn
  pub ctes : List CteSeen

-- a tree sees nothing outside of itself
abbrev pub no_sight : Sight
no_sight = record { inner = []; outer = []; ctes = [] }

-- an expression in a scan sees the columns of its scan
abbrev pub over : Sight → List MadeColumn → Sight
over sight columns = record sight { inner = columns }

-- a subquery has all of them outside
abbrev pub below : Sight → Sight
below sight = record { inner = []; outer = sight.inner ++ sight.outer; ctes = sight.ctes }

abbrev pub with_cte : Sight → CteSeen → Sight
with_cte sight cte = record sight { ctes = cte ∷ sight.ctes }

abbrev pub with_column : Sight → MadeColumn → Sight
with_column sight column = record sight { inner = sight.inner ++ column ∷ [] }

abbrev pub cte_types : ℕ → List CteSeen → Option (List SqlType)
cte_types number [] = None
cte_types number (c ∷ ctes) = if c.number == number then Some c.types else cte_types number ctes

-- ---- one node

-- what is in order at a node
pub record Order : Type 0 where
  pub ids : Bool
  pub seen : Bool
  pub outers : Bool
  pub typed : Bool
  pub shaped : Bool

abbrev pub in_order : Order
in_order = record { ids = true; seen = true; outers = true; typed = true; shaped = true }

-- the first kind of flaw at a node
abbrev pub first_kind : Order → Option FlawKind
first_kind order =
    if not order.ids then Some flaw.Id else
    if not order.seen then Some flaw.Unseen else
    if not order.outers then Some flaw.Outers else
    if not order.typed then Some flaw.Typing else
    if not order.shaped then Some flaw.Shape else None

-- what stands before a node in the text: how many nodes, and the numbers of the columns that they make
pub record Before : Type 0 where
  pub nodes : ℕ
  pub made : List ℕ

-- a walk over a part: the first flaw in it, else what stands before the next part
abbrev pub Walk : Type 0
Walk = Before → Result Before Flaw

-- parts one after another
abbrev pub walk_all : List Walk → Walk
walk_all [] before = Ok before
walk_all (w ∷ walks) before = elim (w before) [ Ok after ↦ walk_all walks after | Err flaw ↦ Err flaw ]

-- each number is above 0, isn't among those before, and stands once
abbrev pub are_new : List ℕ → List ℕ → Bool
are_new [] before = true
are_new (n ∷ ns) before = (not (n == 0) && not (among n before)) && are_new ns (n ∷ before)

-- a node makes some columns; then come its parts
unfoldable pub at_node : Order → List MadeColumn → List Walk → Walk
at_node order made parts before =
    elim (first_kind (record order { ids = order.ids && are_new (numbers made) before.made })) [
      | Some kind ↦ Err (record { place = before.nodes; kind = kind })
      | None ↦ walk_all parts (record { nodes = suc before.nodes; made = numbers made ++ before.made })
    ]

-- ---- tests

-- the column is among these, with this name
abbrev pub sees : ColumnRef → List MadeColumn → Bool
sees r columns = is_some (column_of r columns)

abbrev pub all_seen : List ColumnRef → List MadeColumn → Bool
all_seen [] columns = true
all_seen (r ∷ refs) columns = sees r columns && all_seen refs columns

-- one of these has this name, and a type that a test takes
abbrev pub sees_such : ColumnRef → (SqlType → Bool) → List MadeColumn → Bool
sees_such r test [] = false
sees_such r test (c ∷ columns) = (is_named r c && test c.ty) || sees_such r test columns

-- the column is among these, with this name and this type
abbrev pub sees_typed : ColumnRef → SqlType → List MadeColumn → Bool
sees_typed r type columns = sees_such r (same_type type) columns

-- where the column is there, it has a type that a test takes
abbrev pub if_seen : ColumnRef → (SqlType → Bool) → List MadeColumn → Bool
if_seen r test columns = not (sees r columns) || sees_such r test columns

abbrev pub all_outputs : List Output → List MadeColumn → Bool
all_outputs [] columns = true
all_outputs (o ∷ outputs) columns = sees_typed o.column o.ty columns && all_outputs outputs columns

-- the type that a test takes, where there is a type
abbrev pub if_typed : Option SqlType → (SqlType → Bool) → Bool
if_typed None test = true
if_typed (Some type) test = test type

-- they are the same numbers in the same order
abbrev pub same_numbers : List ColumnRef → List ℕ → Bool
same_numbers [] [] = true
same_numbers [] (n ∷ ns) = false
same_numbers (r ∷ refs) [] = false
same_numbers (r ∷ refs) (n ∷ ns) = (r.id.0 == n) && same_numbers refs ns

abbrev pub all_of_type : SqlType → List SqlType → Bool
all_of_type type [] = true
all_of_type type (other ∷ others) = same_type type other && all_of_type type others

-- a CASE: tests are BOOL, and results have its type
abbrev pub case_typed : SqlType → List SqlType → Bool
case_typed type [] = true
case_typed type (last ∷ []) = same_type type last
case_typed type (test ∷ result ∷ more) = (same_type sql.Bool test && same_type type result) && case_typed type more

abbrev pub fields_layer : type.SqlType-F SqlType → Option (List (Named SqlType))
fields_layer (type.Struct fields) = Some fields
fields_layer _ = None

-- the types of a STRUCT's fields
abbrev pub fields_of : SqlType → Option (List SqlType)
fields_of struct = elim (fields_layer (out-SqlType struct)) [ None ↦ None | Some fields ↦ Some (map (λ f. f.ty) fields) ]

-- a type is there, and it is this one
abbrev pub is_type : SqlType → Option SqlType → Bool
is_type type None = false
is_type type (Some other) = same_type type other

abbrev pub has_field : ℕ → SqlType → SqlType → Bool
has_field place type struct = elim (fields_of struct) [ None ↦ false | Some types ↦ is_type type (slice_get types place) ]

abbrev pub struct_typed : SqlType → List SqlType → Bool
struct_typed struct parts = elim (fields_of struct) [ None ↦ false | Some types ↦ typed_as types parts ]

abbrev pub struct_shaped : SqlType → List SqlType → Bool
struct_shaped struct parts = elim (fields_of struct) [ None ↦ true | Some types ↦ length types == length parts ]

abbrev pub array_typed : SqlType → List SqlType → Bool
array_typed array parts = elim (element_of array) [ None ↦ false | Some element ↦ all_of_type element parts ]

-- the elements of an array, as they stand, coerce to a type
abbrev pub elements_coerce : SqlType → SqlType → Bool
elements_coerce array to = elim (element_of array) [ None ↦ false | Some element ↦ other_coerces element to ]

abbrev pub one_or_more : {A : Type 0} → List A → Bool
one_or_more [] = false
one_or_more (x ∷ xs) = true

-- a condition that may be missing is BOOL
abbrev pub condition_typed : Option SqlType → Bool
condition_typed condition = if_typed condition (same_type sql.Bool)

-- CROSS alone has no condition
abbrev pub condition_shaped : {A : Type 0} → JoinKind → Option A → Bool
condition_shaped join.Cross condition = not (is_some condition)
condition_shaped kind condition = is_some condition

abbrev pub types_of : List MadeColumn → List SqlType
types_of columns = map (λ c. c.ty) columns

-- ---- the walk

abbrev pub Walks : Type 0
Walks = Sight → Walk

-- each part is given with its walk
abbrev pub RexPart : Type 0
RexPart = Rex × Walks

abbrev pub ScanPart : Type 0
ScanPart = Scan × Walks

abbrev pub type_of : RexPart → SqlType
type_of x = rex_type x.0

abbrev pub types : List RexPart → List SqlType
types xs = map type_of xs

abbrev pub trees : List RexPart → List Rex
trees xs = map (λ x. x.0) xs

abbrev pub type_there : Option RexPart → Option SqlType
type_there None = None
type_there (Some x) = Some (type_of x)

-- expressions in one sight
abbrev pub each : List RexPart → Sight → List Walk
each [] sight = []
each (x ∷ xs) sight = x.1 sight ∷ each xs sight

-- a Compute node: it makes its column, whose type is that of its expression
abbrev pub compute_walk : Compute RexPart → Sight → Walk
compute_walk c sight =
    at_node (record in_order { typed = same_type c.column.ty (type_of c.expr) }) (c.column ∷ []) (c.expr.1 sight ∷ [])

-- the columns of a Project don't see each other
abbrev pub computes : List (Compute RexPart) → Sight → List Walk
computes [] sight = []
computes (c ∷ cs) sight = compute_walk c sight ∷ computes cs sight

-- those of a Let see the ones before them, and its expression sees them all
abbrev pub let_walks : List (Compute RexPart) → RexPart → Sight → List Walk
let_walks [] x sight = x.1 sight ∷ []
let_walks (c ∷ cs) x sight = compute_walk c sight ∷ let_walks cs x (with_column sight c.column)

-- The node of a subquery: its list is that of its free columns in order, and each of them is in sight.
abbrev pub subquery : List ColumnRef → Scan → Sight → Order → Order
subquery outer scan sight order = record order {
  seen = order.seen && all_seen outer (sight.inner ++ sight.outer);
  outers = same_numbers outer (free scan);
}

-- the column that a subquery takes, and what its type has to be
abbrev pub takes : ColumnRef → Scan → (SqlType → Bool) → (SqlType → Bool) → Order
takes column scan typed shaped = record in_order {
  seen = sees column (columns scan);
  typed = if_seen column typed (columns scan);
  shaped = if_seen column shaped (columns scan);
}

-- no condition on a type
abbrev pub any_type : SqlType → Bool
any_type type = true

abbrev pub rex_walk : Rex-F RexPart ScanPart → Sight → Walk
-- the value fits its type
rex_walk (t.Literal value ty) sight = at_node (record in_order { typed = fits ty value }) [] []
rex_walk (t.Parameter name ty) sight = at_node in_order [] []
-- a column of this query, and one of a query outside
rex_walk (t.Column column ty) sight = at_node (record in_order { seen = sees_typed column ty sight.inner }) [] []
rex_walk (t.Outer column ty) sight = at_node (record in_order { seen = sees_typed column ty sight.outer }) [] []
-- as the row of the signature says
rex_walk (t.Call signature ty arguments) sight =
    at_node (record in_order { typed = row_typed (call_row signature) (types arguments) ty; shaped = row_shaped (call_row signature) (trees arguments) })
    [] (each arguments sight)
rex_walk (t.SafeCall signature ty arguments) sight =
    at_node (record in_order { typed = row_typed (call_row signature) (types arguments) ty; shaped = row_shaped (call_row signature) (trees arguments) })
    [] (each arguments sight)
-- the table of casts has the pair
rex_walk (t.Cast ty x) sight = at_node (record in_order { typed = castable (type_of x) ty }) [] (x.1 sight ∷ [])
rex_walk (t.SafeCast ty x) sight = at_node (record in_order { typed = castable (type_of x) ty }) [] (x.1 sight ∷ [])
-- a test, and two of the node's type
rex_walk (t.If ty operands) sight =
    at_node (record in_order { typed = typed_as (sql.Bool ∷ ty ∷ ty ∷ []) (types operands); shaped = length operands == 3 }) [] (each operands sight)
rex_walk (t.Case ty operands) sight =
    at_node (record in_order { typed = case_typed ty (types operands); shaped = nat_lt 1 (length operands) }) [] (each operands sight)
-- one or more of the node's type
rex_walk (t.Coalesce ty operands) sight =
    at_node (record in_order { typed = all_of_type ty (types operands); shaped = one_or_more operands }) [] (each operands sight)
-- one or more truth values
rex_walk (t.And ty operands) sight =
    at_node (record in_order { typed = all_of_type sql.Bool (ty ∷ types operands); shaped = one_or_more operands }) [] (each operands sight)
rex_walk (t.Or ty operands) sight =
    at_node (record in_order { typed = all_of_type sql.Bool (ty ∷ types operands); shaped = one_or_more operands }) [] (each operands sight)
-- two, or one, of the node's type
rex_walk (t.IfError ty operands) sight =
    at_node (record in_order { typed = all_of_type ty (types operands); shaped = length operands == 2 }) [] (each operands sight)
rex_walk (t.NullIfError ty operands) sight =
    at_node (record in_order { typed = all_of_type ty (types operands); shaped = length operands == 1 }) [] (each operands sight)
-- one of any type
rex_walk (t.IsError ty operands) sight =
    at_node (record in_order { typed = same_type ty sql.Bool; shaped = length operands == 1 }) [] (each operands sight)
-- a STRING; the node has any type
rex_walk (t.Raise ty operands) sight =
    at_node (record in_order { typed = typed_as (sql.Text ∷ []) (types operands); shaped = length operands == 1 }) [] (each operands sight)
-- one or more of the type of the search value, which can be compared
rex_walk (t.InList sought list) sight =
    at_node (record in_order { typed = all_of_type (type_of sought) (types list); shaped = one_or_more list && comparable (type_of sought) })
    [] (each (sought ∷ list) sight)
-- an array whose elements coerce to the type of the search value
rex_walk (t.InArray sought array) sight =
    at_node (record in_order { typed = elements_coerce (type_of array) (type_of sought); shaped = comparable (type_of sought) })
    [] (each (sought ∷ array ∷ []) sight)
rex_walk (t.Let ty bindings x) sight = at_node (record in_order { typed = same_type ty (type_of x) }) [] (let_walks bindings x sight)
-- parts of the element type, and one part for each field, of its type
rex_walk (t.MakeArray ty parts) sight = at_node (record in_order { typed = array_typed ty (types parts) }) [] (each parts sight)
rex_walk (t.MakeStruct ty parts) sight =
    at_node (record in_order { typed = struct_typed ty (types parts); shaped = struct_shaped ty (types parts) }) [] (each parts sight)
rex_walk (t.Field place ty x) sight = at_node (record in_order { typed = has_field place ty (type_of x) }) [] (x.1 sight ∷ [])
-- an element of an array, by an INT64
rex_walk (t.Index form ty array index) sight =
    at_node (record in_order { typed = is_type ty (element_of (type_of array)) && same_type sql.Int64 (type_of index) })
    [] (each (array ∷ index ∷ []) sight)
-- the type of the column that is taken
rex_walk (t.Scalar ty column outer scan) sight =
    at_node (subquery outer scan.0 sight (takes column scan.0 (same_type ty) any_type)) [] (scan.1 (below sight) ∷ [])
-- an array of that type
rex_walk (t.ArrayOf ty column outer scan) sight =
    at_node (subquery outer scan.0 sight (takes column scan.0 (λ taken. is_type taken (element_of ty)) any_type)) [] (scan.1 (below sight) ∷ [])
rex_walk (t.Exists ty outer scan) sight =
    at_node (subquery outer scan.0 sight (record in_order { typed = same_type ty sql.Bool })) [] (scan.1 (below sight) ∷ [])
-- the column has the type of the search value, which can be compared
rex_walk (t.InQuery ty column outer sought scan) sight =
    at_node (subquery outer scan.0 sight (takes column scan.0 (λ taken. same_type ty sql.Bool && same_type taken (type_of sought)) comparable))
    [] (sought.1 sight ∷ scan.1 (below sight) ∷ [])

-- a Cte node: no earlier one of its list has its number, and its columns are among those of its scan
abbrev pub cte_walk : List ℕ → Cte ScanPart → Sight → Walk
cte_walk earlier c sight =
    at_node (record in_order { ids = not (among c.number earlier); seen = all_seen c.columns (columns c.scan.0) }) [] (c.scan.1 sight ∷ [])

abbrev pub cte_seen : Cte ScanPart → CteSeen
cte_seen c = record { number = c.number; types = types_seen c.columns (columns c.scan.0) }
  where
    types_seen : List ColumnRef → List MadeColumn → List SqlType
    types_seen [] made = []
    types_seen (r ∷ refs) made = elim (column_of r made) [ None ↦ types_seen refs made | Some c ↦ c.ty ∷ types_seen refs made ]

-- each query of a WITH list sees those before it, and the scan sees them all
abbrev pub with_walks : List ℕ → List (Cte ScanPart) → ScanPart → Sight → List Walk
with_walks earlier [] scan sight = scan.1 sight ∷ []
with_walks earlier (c ∷ ctes) scan sight =
    cte_walk earlier c sight ∷ with_walks (c.number ∷ earlier) ctes scan (with_cte sight (cte_seen c))

-- A reference to a query of a WITH list: the query is in sight, and the columns have the types of its columns, one for each.
abbrev pub reference : List SqlType → Option (List SqlType) → Order
reference made None = record in_order { seen = false }
reference made (Some given) = record in_order { typed = typed_as given made; shaped = length given == length made }

-- an array's elements have the type of the column that is made, and its places are INT64
abbrev pub unnest_typed : MadeColumn → Option MadeColumn → RexPart → Option RexPart → Bool
unnest_typed element offset array condition =
    (is_type element.ty (element_of (type_of array)) && all_of_type sql.Int64 (types_of (there offset))) && condition_typed (type_there condition)

abbrev pub scan_walk : Scan-F RexPart ScanPart → Sight → Walk
scan_walk t.Single sight = at_node in_order [] []
scan_walk (t.Table name number columns) sight = at_node in_order columns []
scan_walk (t.With ctes scan) sight = at_node in_order [] (with_walks [] ctes scan sight)
scan_walk (t.CteRef number columns) sight = at_node (reference (types_of columns) (cte_types number sight.ctes)) columns []
-- the array sees the columns of the scan, and the condition also those that are made
scan_walk (t.Unnest kind element offset scan array condition) sight =
    at_node (record in_order { typed = unnest_typed element offset array condition }) (element ∷ there offset)
    (scan.1 sight ∷ array.1 (over sight (columns scan.0)) ∷ each (there condition) (over sight (columns scan.0 ++ element ∷ there offset)))
scan_walk (t.Join kind left right condition) sight =
    at_node (record in_order { typed = condition_typed (type_there condition); shaped = condition_shaped kind condition }) []
    (left.1 sight ∷ right.1 sight ∷ each (there condition) (over sight (columns left.0 ++ columns right.0)))
scan_walk (t.Filter scan condition) sight =
    at_node (record in_order { typed = same_type sql.Bool (type_of condition) }) [] (scan.1 sight ∷ condition.1 (over sight (columns scan.0)) ∷ [])
-- the listed columns are of those of the scan and those computed
scan_walk (t.Project listed scan computed) sight =
    at_node (record in_order { seen = all_seen listed (columns scan.0 ++ computed_columns computed) }) []
    (scan.1 sight ∷ computes computed (over sight (columns scan.0)))

-- a part of a tree, in a sight
unfoldable pub RexWalk : Rex → Sight → Walk
RexWalk = para-Rex Walks Walks rex_walk scan_walk

unfoldable pub ScanWalk : Scan → Sight → Walk
ScanWalk = para-Scan Walks Walks rex_walk scan_walk

-- ---- whole trees

abbrev pub nothing_before : Before
nothing_before = record { nodes = 0; made = [] }

-- the node Output, and what is below it: each column of the answer is one of the scan's, with its name and type
abbrev pub tree_walk : Tree → Walk
tree_walk tree = at_node (record in_order { seen = all_outputs tree.outputs (columns tree.scan) }) [] (ScanWalk tree.scan no_sight ∷ [])

-- the first flaw of a tree, where it has one
abbrev pub first_flaw : Tree → Option Flaw
first_flaw tree = elim (tree_walk tree nothing_before) [ Ok after ↦ None | Err flaw ↦ Some flaw ]

-- a tree is valid where it has no flaw
abbrev pub Valid : Tree → Type 0
Valid tree = first_flaw tree ≡ None
