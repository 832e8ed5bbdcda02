-- The columns of trees: those that a scan gives, those that nodes make, and those that a subquery takes from outside.
use Rattle.std.specs.Prelude.{ℕ, ◌==◌, Bool, true, false, ◌&&◌, if◌then◌else◌, List, [], ◌∷◌, ◌++◌, map, Option, None, Some}
use Rattle.sql_types.specs.declared.sql_type.SqlType.{SqlType, out-SqlType}
use Rattle.sql_types.specs.declared.sql_type.SqlType.TheOpen as type
use Rattle.sql_types.specs.declared.sql_type.SqlType.TheVariants as ty
use Rattle.sql_types.specs.SameType.{same_label}
use Rattle.resolved_ast.specs.declared.column.ColumnRef.{ColumnRef}
use Rattle.resolved_ast.specs.declared.column.MadeColumn.{MadeColumn}
use Rattle.resolved_ast.specs.declared.rex.Compute.{Compute}
use Rattle.resolved_ast.specs.declared.rex.Rex.{Rex, out-Rex}
use Rattle.resolved_ast.specs.declared.rex.Rex.TheOpen.{Rex-F, Scan-F}
use Rattle.resolved_ast.specs.declared.rex.Rex.TheOpen as t
use Rattle.resolved_ast.specs.declared.scan.Scan.{Scan, fold-Scan}
use Rattle.resolved_ast.specs.Parts.{there, rex_parts, scan_parts, together}

-- ---- one column

-- the column is the one to which a node refers: its number and its name
abbrev pub is_named : ColumnRef → MadeColumn → Bool
is_named r c = (r.id.0 == c.id.0) && same_label r.name c.name

-- the first such column
abbrev pub column_of : ColumnRef → List MadeColumn → Option MadeColumn
column_of r [] = None
column_of r (c ∷ columns) = if is_named r c then Some c else column_of r columns

-- ---- what a scan gives

-- the columns that a node refers to
abbrev pub named_by : ColumnRef → List MadeColumn → List MadeColumn
named_by r [] = []
named_by r (c ∷ columns) = if is_named r c then c ∷ named_by r columns else named_by r columns

-- the columns that a list names
abbrev pub listed : List ColumnRef → List MadeColumn → List MadeColumn
listed [] columns = []
listed (r ∷ refs) columns = named_by r columns ++ listed refs columns

abbrev pub computed_columns : {A : Type 0} → List (Compute A) → List MadeColumn
computed_columns cs = map (λ c. c.column) cs

-- a scan's columns, over those of its parts
abbrev pub scan_columns : {A : Type 0} → Scan-F A (List MadeColumn) → List MadeColumn
scan_columns t.Single = []
scan_columns (t.Table name number columns) = columns
scan_columns (t.With ctes scan) = scan
scan_columns (t.CteRef number columns) = columns
scan_columns (t.Unnest kind element offset scan array condition) = scan ++ element ∷ there offset
scan_columns (t.Join kind left right condition) = left ++ right
scan_columns (t.Filter scan condition) = scan
-- of those of the scan and those computed the ones that are listed
scan_columns (t.Project columns scan computed) = listed columns (scan ++ computed_columns computed)

unfoldable pub columns : Scan → List MadeColumn
columns = fold-Scan (Unit {0}) (List MadeColumn) (λ rex. tt) scan_columns

-- ---- the type of an expression

abbrev pub rex_type_layer : {A B : Type 0} → Rex-F A B → SqlType
rex_type_layer (t.Literal value ty) = ty
rex_type_layer (t.Parameter name ty) = ty
rex_type_layer (t.Column column ty) = ty
rex_type_layer (t.Outer column ty) = ty
rex_type_layer (t.Call signature ty arguments) = ty
rex_type_layer (t.SafeCall signature ty arguments) = ty
rex_type_layer (t.Cast ty expr) = ty
rex_type_layer (t.SafeCast ty expr) = ty
rex_type_layer (t.If ty operands) = ty
rex_type_layer (t.Case ty operands) = ty
rex_type_layer (t.Coalesce ty operands) = ty
rex_type_layer (t.And ty operands) = ty
rex_type_layer (t.Or ty operands) = ty
rex_type_layer (t.IfError ty operands) = ty
rex_type_layer (t.IsError ty operands) = ty
rex_type_layer (t.NullIfError ty operands) = ty
rex_type_layer (t.Raise ty operands) = ty
-- IN is BOOL
rex_type_layer (t.InList sought list) = ty.Bool
rex_type_layer (t.InArray sought array) = ty.Bool
rex_type_layer (t.Let ty bindings expr) = ty
rex_type_layer (t.MakeArray ty parts) = ty
rex_type_layer (t.MakeStruct ty parts) = ty
rex_type_layer (t.Field place ty expr) = ty
rex_type_layer (t.Index form ty array index) = ty
rex_type_layer (t.Scalar ty column outer scan) = ty
rex_type_layer (t.ArrayOf ty column outer scan) = ty
rex_type_layer (t.Exists ty outer scan) = ty
rex_type_layer (t.InQuery ty column outer sought scan) = ty

-- the type that a node says of itself
abbrev pub rex_type : Rex → SqlType
rex_type x = rex_type_layer (out-Rex x)

-- the element type of an ARRAY, where it is one
abbrev pub element_layer : type.SqlType-F SqlType → Option SqlType
element_layer (type.Array element) = Some element
element_layer _ = None

abbrev pub element_of : SqlType → Option SqlType
element_of array = element_layer (out-SqlType array)

-- the same, with a type for every other type too
abbrev pub element_type : SqlType → SqlType
element_type array = elim (element_of array) [ None ↦ ty.Int64 | Some element ↦ element ]

-- ---- the columns that a subquery takes from outside

abbrev pub ids_of : List ColumnRef → List ℕ
ids_of refs = map (λ r. r.id.0) refs

-- The numbers of the columns that a part uses, in the order of the text: Column and Outer nodes name them, and the lists of the
-- subqueries in it, which stand before these. The other lists and the columns that are taken name columns of their own scan.
abbrev pub rex_uses : Rex-F (List ℕ) (List ℕ) → List ℕ
rex_uses (t.Column column ty) = column.id.0 ∷ []
rex_uses (t.Outer column ty) = column.id.0 ∷ []
rex_uses (t.Scalar ty column outer scan) = ids_of outer ++ scan
rex_uses (t.ArrayOf ty column outer scan) = ids_of outer ++ scan
rex_uses (t.Exists ty outer scan) = ids_of outer ++ scan
rex_uses (t.InQuery ty column outer sought scan) = ids_of outer ++ sought ++ scan
rex_uses other = together (rex_parts other)

abbrev pub scan_uses : Scan-F (List ℕ) (List ℕ) → List ℕ
scan_uses other = together (scan_parts other)

unfoldable pub uses : Scan → List ℕ
uses = fold-Scan (List ℕ) (List ℕ) rex_uses scan_uses

abbrev pub numbers : List MadeColumn → List ℕ
numbers columns = map (λ c. c.id.0) columns

-- the numbers of the columns that are made in a part
abbrev pub rex_makes : Rex-F (List ℕ) (List ℕ) → List ℕ
rex_makes (t.Let ty bindings expr) = numbers (computed_columns bindings) ++ together (rex_parts (t.Let ty bindings expr))
rex_makes other = together (rex_parts other)

abbrev pub own_columns : {A B : Type 0} → Scan-F A B → List MadeColumn
own_columns (t.Table name number columns) = columns
own_columns (t.CteRef number columns) = columns
own_columns (t.Unnest kind element offset scan array condition) = element ∷ there offset
own_columns (t.Project columns scan computed) = computed_columns computed
own_columns _ = []

abbrev pub scan_makes : Scan-F (List ℕ) (List ℕ) → List ℕ
scan_makes other = numbers (own_columns other) ++ together (scan_parts other)

unfoldable pub makes : Scan → List ℕ
makes = fold-Scan (List ℕ) (List ℕ) rex_makes scan_makes

abbrev pub among : ℕ → List ℕ → Bool
among n [] = false
among n (m ∷ ms) = if n == m then true else among n ms

-- each number once, where it stands first, without those that are left out
abbrev pub firsts : List ℕ → List ℕ → List ℕ
firsts without [] = []
firsts without (n ∷ ns) = if among n without then firsts without ns else (n ∷ firsts (n ∷ without) ns)

-- a scan's free columns: those that it uses and doesn't make, in the order of their first use in the text
abbrev pub free : Scan → List ℕ
free scan = firsts (makes scan) (uses scan)
