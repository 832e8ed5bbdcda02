-- The text of a resolved tree: one line a node, and below it, two spaces further in, the lines of its parts.
use Rattle.std.specs.Prelude.{ℕ, List, [], ◌∷◌, ◌++◌, map, codes, Option, None, Some}
use Rattle.sql_types.specs.declared.kinds.JoinKind.{JoinKind}
use Rattle.sql_types.specs.declared.kinds.JoinKind.TheVariants as join
use Rattle.sql_types.specs.TypeText.{type_text}
use Rattle.sql_names.specs.Commas.{joined}
use Rattle.sql_names.specs.Spelling.{quote_name}
use Rattle.sql_ast.specs.declared.expr.IndexForm.{IndexForm}
use Rattle.sql_ast.specs.declared.expr.IndexForm.TheVariants as form
use Rattle.sql_ast.specs.Literals.{LiteralText}
use Rattle.resolved_ast.specs.declared.column.ColumnRef.{ColumnRef}
use Rattle.resolved_ast.specs.declared.column.MadeColumn.{MadeColumn}
use Rattle.resolved_ast.specs.declared.rex.Compute.{Compute}
use Rattle.resolved_ast.specs.declared.rex.Rex.{Rex, fold-Rex}
use Rattle.resolved_ast.specs.declared.rex.Rex.TheOpen.{Rex-F, Scan-F}
use Rattle.resolved_ast.specs.declared.rex.Rex.TheOpen as t
use Rattle.resolved_ast.specs.declared.scan.Cte.{Cte}
use Rattle.resolved_ast.specs.declared.scan.Output.{Output}
use Rattle.resolved_ast.specs.declared.scan.Scan.{Scan, fold-Scan}
use Rattle.resolved_ast.specs.declared.scan.Tree.{Tree}
use Rattle.resolved_ast.specs.declared.scan.UnnestKind.{UnnestKind}
use Rattle.resolved_ast.specs.declared.scan.UnnestKind.TheVariants as unnest
use Rattle.resolved_ast.specs.Numeral.{numeral}
use Rattle.resolved_ast.specs.Parts.{there}
use Rattle.resolved_ast.specs.SignatureNames.{signature_name}

-- ---- fields

-- nothing where there is no name
abbrev pub name_text : Option (List ℕ) → List ℕ
name_text None = []
name_text (Some name) = quote_name name

-- a column: its name, and its number after `#`
abbrev pub ref_text : ColumnRef → List ℕ
ref_text c = name_text c.name ++ codes "#" ++ numeral c.id.0

-- a column where it is made: also its type
abbrev pub made_text : MadeColumn → List ℕ
made_text c = (name_text c.name ++ codes "#" ++ numeral c.id.0) ++ codes " " ++ type_text c.ty

-- a column of the answer: its name there, and the column with its type
abbrev pub output_text : Output → List ℕ
output_text o = name_text o.name ++ codes "=" ++ ref_text o.column ++ codes " " ++ type_text o.ty

-- a list stands in square brackets
unfoldable pub list_text : {A : Type 0} → (A → List ℕ) → List A → List ℕ
list_text text xs = codes "[" ++ joined (map text xs) ++ codes "]"

-- a field that is missing is a dash
abbrev pub or_dash : {A : Type 0} → (A → List ℕ) → Option A → List ℕ
or_dash text None = codes "-"
or_dash text (Some x) = text x

abbrev pub join_text : JoinKind → List ℕ
join_text join.Cross = codes "CROSS"
join_text join.Inner = codes "INNER"
join_text join.Left = codes "LEFT"
join_text join.Right = codes "RIGHT"
join_text join.Full = codes "FULL"

abbrev pub unnest_text : UnnestKind → List ℕ
unnest_text unnest.Inner = codes "INNER"
unnest_text unnest.Left = codes "LEFT"

abbrev pub form_text : IndexForm → List ℕ
form_text form.Offset = codes "OFFSET"
form_text form.Ordinal = codes "ORDINAL"
form_text form.SafeOffset = codes "SAFE_OFFSET"
form_text form.SafeOrdinal = codes "SAFE_ORDINAL"

-- ---- lines

-- the text of a part, by the spaces before each of its lines
abbrev pub Shown : Type 0
Shown = List ℕ → List ℕ

-- each field after a space
abbrev pub spaced : List (List ℕ) → List ℕ
spaced [] = []
spaced (f ∷ fs) = codes " " ++ f ++ spaced fs

-- one part after another
abbrev pub in_turn : List Shown → Shown
in_turn [] margin = []
in_turn (p ∷ ps) margin = p margin ++ in_turn ps margin

-- the line of a node: its word, and its fields
abbrev pub line : List ℕ → List (List ℕ) → Shown
line word fields margin = margin ++ word ++ spaced fields ++ codes "\n"

-- a node: its line, and then its parts, two spaces further in
abbrev pub node : List ℕ → List (List ℕ) → List Shown → Shown
node word fields parts margin = line word fields margin ++ in_turn parts (margin ++ codes "  ")

abbrev pub compute_text : Compute Shown → Shown
compute_text c = node (codes "Compute") (made_text c.column ∷ []) (c.expr ∷ [])

abbrev pub cte_text : Cte Shown → Shown
cte_text c = node (codes "Cte") (numeral c.number ∷ list_text ref_text c.columns ∷ []) (c.scan ∷ [])

-- an expression, over the texts of its parts
abbrev pub rex_text : Rex-F Shown Shown → Shown
rex_text (t.Literal value ty) = node (codes "Literal") (LiteralText value ∷ type_text ty ∷ []) []
rex_text (t.Parameter name ty) = node (codes "Parameter") (quote_name name ∷ type_text ty ∷ []) []
rex_text (t.Column column ty) = node (codes "Column") (ref_text column ∷ type_text ty ∷ []) []
rex_text (t.Outer column ty) = node (codes "Outer") (ref_text column ∷ type_text ty ∷ []) []
rex_text (t.Call signature ty arguments) = node (codes "Call") (signature_name signature ∷ type_text ty ∷ []) arguments
rex_text (t.SafeCall signature ty arguments) = node (codes "SafeCall") (signature_name signature ∷ type_text ty ∷ []) arguments
rex_text (t.Cast ty expr) = node (codes "Cast") (type_text ty ∷ []) (expr ∷ [])
rex_text (t.SafeCast ty expr) = node (codes "SafeCast") (type_text ty ∷ []) (expr ∷ [])
rex_text (t.If ty operands) = node (codes "If") (type_text ty ∷ []) operands
rex_text (t.Case ty operands) = node (codes "Case") (type_text ty ∷ []) operands
rex_text (t.Coalesce ty operands) = node (codes "Coalesce") (type_text ty ∷ []) operands
rex_text (t.And ty operands) = node (codes "And") (type_text ty ∷ []) operands
rex_text (t.Or ty operands) = node (codes "Or") (type_text ty ∷ []) operands
rex_text (t.IfError ty operands) = node (codes "IfError") (type_text ty ∷ []) operands
rex_text (t.IsError ty operands) = node (codes "IsError") (type_text ty ∷ []) operands
rex_text (t.NullIfError ty operands) = node (codes "NullIfError") (type_text ty ∷ []) operands
rex_text (t.Raise ty operands) = node (codes "Raise") (type_text ty ∷ []) operands
rex_text (t.InList sought list) = node (codes "InList") [] (sought ∷ list)
rex_text (t.InArray sought array) = node (codes "InArray") [] (sought ∷ array ∷ [])
rex_text (t.Let ty bindings expr) = node (codes "Let") (type_text ty ∷ []) (map compute_text bindings ++ expr ∷ [])
rex_text (t.MakeArray ty parts) = node (codes "MakeArray") (type_text ty ∷ []) parts
rex_text (t.MakeStruct ty parts) = node (codes "MakeStruct") (type_text ty ∷ []) parts
rex_text (t.Field place ty expr) = node (codes "Field") (numeral place ∷ type_text ty ∷ []) (expr ∷ [])
rex_text (t.Index form ty array index) = node (codes "Index") (form_text form ∷ type_text ty ∷ []) (array ∷ index ∷ [])
rex_text (t.Scalar ty column outer scan) =
    node (codes "Scalar") (type_text ty ∷ ref_text column ∷ list_text ref_text outer ∷ []) (scan ∷ [])
rex_text (t.ArrayOf ty column outer scan) =
    node (codes "ArrayOf") (type_text ty ∷ ref_text column ∷ list_text ref_text outer ∷ []) (scan ∷ [])
rex_text (t.Exists ty outer scan) = node (codes "Exists") (type_text ty ∷ list_text ref_text outer ∷ []) (scan ∷ [])
rex_text (t.InQuery ty column outer sought scan) =
    node (codes "InQuery") (type_text ty ∷ ref_text column ∷ list_text ref_text outer ∷ []) (sought ∷ scan ∷ [])

-- a scan
abbrev pub scan_text : Scan-F Shown Shown → Shown
scan_text t.Single = node (codes "Single") [] []
scan_text (t.Table name number columns) = node (codes "Table") (quote_name name ∷ list_text made_text columns ∷ []) []
scan_text (t.With ctes scan) = node (codes "With") [] (map cte_text ctes ++ scan ∷ [])
scan_text (t.CteRef number columns) = node (codes "CteRef") (numeral number ∷ list_text made_text columns ∷ []) []
scan_text (t.Unnest kind element offset scan array condition) =
    node (codes "Unnest") (unnest_text kind ∷ made_text element ∷ or_dash made_text offset ∷ []) (scan ∷ array ∷ there condition)
scan_text (t.Join kind left right condition) = node (codes "Join") (join_text kind ∷ []) (left ∷ right ∷ there condition)
scan_text (t.Filter scan condition) = node (codes "Filter") [] (scan ∷ condition ∷ [])
scan_text (t.Project columns scan computed) =
    node (codes "Project") (list_text ref_text columns ∷ []) (scan ∷ map compute_text computed)

-- the text of a part of a tree
unfoldable pub RexText : Rex → Shown
RexText = fold-Rex Shown Shown rex_text scan_text

unfoldable pub ScanText : Scan → Shown
ScanText = fold-Scan Shown Shown rex_text scan_text

-- The text of a tree. The number that a table has in the catalog isn't printed.
abbrev pub TreeText : Tree → List ℕ
TreeText tree = node (codes "Output") (list_text output_text tree.outputs ∷ []) (ScanText tree.scan ∷ []) []
