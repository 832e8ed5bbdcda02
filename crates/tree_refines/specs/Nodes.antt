-- What the nodes of a tree name, in the order of its text.
use Rattle.std.specs.Prelude.{ℕ, List, [], ◌∷◌, ◌++◌, map}
use Rattle.sql_types.specs.declared.sql_type.SqlType.{SqlType}
use Rattle.resolved_ast.specs.declared.column.MadeColumn.{MadeColumn}
use Rattle.resolved_ast.specs.declared.rex.Compute.{Compute}
use Rattle.resolved_ast.specs.declared.rex.Rex.TheOpen.{Rex-F, Scan-F}
use Rattle.resolved_ast.specs.declared.rex.Rex.TheOpen as t
use Rattle.resolved_ast.specs.declared.scan.Scan.{Scan, fold-Scan}
use Rattle.resolved_ast.specs.Columns.{numbers}
use Rattle.resolved_ast.specs.Parts.{rex_parts, scan_parts, there, together}

-- ---- tables and parameters

pub record TableNode : Type 0 where
  pub name : List ℕ
  pub number : ℕ
  pub columns : List MadeColumn

pub record ParamNode : Type 0 where
  pub name : List ℕ
  pub ty : SqlType

abbrev pub tables_in_rex : Rex-F (List TableNode) (List TableNode) → List TableNode
tables_in_rex other = together (rex_parts other)

abbrev pub tables_in_scan : Scan-F (List TableNode) (List TableNode) → List TableNode
tables_in_scan (t.Table name number columns) = record { name = name; number = number; columns = columns } ∷ []
tables_in_scan other = together (scan_parts other)

-- the Table nodes
unfoldable pub table_nodes : Scan → List TableNode
table_nodes = fold-Scan (List TableNode) (List TableNode) tables_in_rex tables_in_scan

abbrev pub params_in_rex : Rex-F (List ParamNode) (List ParamNode) → List ParamNode
params_in_rex (t.Parameter name ty) = record { name = name; ty = ty } ∷ []
params_in_rex other = together (rex_parts other)

abbrev pub params_in_scan : Scan-F (List ParamNode) (List ParamNode) → List ParamNode
params_in_scan other = together (scan_parts other)

-- the Parameter nodes
unfoldable pub param_nodes : Scan → List ParamNode
param_nodes = fold-Scan (List ParamNode) (List ParamNode) params_in_rex params_in_scan

-- ---- the columns that are made

-- a Compute node makes its column before those of its expression
abbrev pub made_computed : List (Compute (List ℕ)) → List ℕ
made_computed [] = []
made_computed (c ∷ cs) = c.column.id.0 ∷ (c.expr ++ made_computed cs)

abbrev pub made_in_rex : Rex-F (List ℕ) (List ℕ) → List ℕ
made_in_rex (t.Let ty bindings expr) = made_computed bindings ++ expr
made_in_rex other = together (rex_parts other)

-- a node makes its own columns before those of its parts
abbrev pub made_in_scan : Scan-F (List ℕ) (List ℕ) → List ℕ
made_in_scan (t.Table name number columns) = numbers columns
made_in_scan (t.CteRef number columns) = numbers columns
made_in_scan (t.Unnest kind element offset scan array condition) = numbers (element ∷ there offset) ++ together (scan ∷ array ∷ there condition)
made_in_scan (t.Project columns scan computed) = scan ++ made_computed computed
made_in_scan other = together (scan_parts other)

-- the numbers of the columns that a tree makes
unfoldable pub made_columns : Scan → List ℕ
made_columns = fold-Scan (List ℕ) (List ℕ) made_in_rex made_in_scan

-- ---- types

-- the types that a node names itself
abbrev pub types_of_rex : {A B : Type 0} → Rex-F A B → List SqlType
types_of_rex (t.Literal value ty) = ty ∷ []
types_of_rex (t.Parameter name ty) = ty ∷ []
types_of_rex (t.Column column ty) = ty ∷ []
types_of_rex (t.Outer column ty) = ty ∷ []
types_of_rex (t.Call signature ty arguments) = ty ∷ []
types_of_rex (t.SafeCall signature ty arguments) = ty ∷ []
types_of_rex (t.Cast ty expr) = ty ∷ []
types_of_rex (t.SafeCast ty expr) = ty ∷ []
types_of_rex (t.If ty operands) = ty ∷ []
types_of_rex (t.Case ty operands) = ty ∷ []
types_of_rex (t.Coalesce ty operands) = ty ∷ []
types_of_rex (t.And ty operands) = ty ∷ []
types_of_rex (t.Or ty operands) = ty ∷ []
types_of_rex (t.IfError ty operands) = ty ∷ []
types_of_rex (t.IsError ty operands) = ty ∷ []
types_of_rex (t.NullIfError ty operands) = ty ∷ []
types_of_rex (t.Raise ty operands) = ty ∷ []
types_of_rex (t.InList sought list) = []
types_of_rex (t.InArray sought array) = []
types_of_rex (t.Let ty bindings expr) = ty ∷ map (λ c. c.column.ty) bindings
types_of_rex (t.MakeArray ty parts) = ty ∷ []
types_of_rex (t.MakeStruct ty parts) = ty ∷ []
types_of_rex (t.Field place ty expr) = ty ∷ []
types_of_rex (t.Index form ty array index) = ty ∷ []
types_of_rex (t.Scalar ty column outer scan) = ty ∷ []
types_of_rex (t.ArrayOf ty column outer scan) = ty ∷ []
types_of_rex (t.Exists ty outer scan) = ty ∷ []
types_of_rex (t.InQuery ty column outer sought scan) = ty ∷ []

abbrev pub types_of_scan : {A B : Type 0} → Scan-F A B → List SqlType
types_of_scan t.Single = []
types_of_scan (t.Table name number columns) = map (λ c. c.ty) columns
types_of_scan (t.With ctes scan) = []
types_of_scan (t.CteRef number columns) = map (λ c. c.ty) columns
types_of_scan (t.Unnest kind element offset scan array condition) = map (λ c. c.ty) (element ∷ there offset)
types_of_scan (t.Join kind left right condition) = []
types_of_scan (t.Filter scan condition) = []
types_of_scan (t.Project columns scan computed) = map (λ c. c.column.ty) computed

abbrev pub types_in_rex : Rex-F (List SqlType) (List SqlType) → List SqlType
types_in_rex x = types_of_rex x ++ together (rex_parts x)

abbrev pub types_in_scan : Scan-F (List SqlType) (List SqlType) → List SqlType
types_in_scan x = types_of_scan x ++ together (scan_parts x)

-- the types that a tree names
unfoldable pub types_in : Scan → List SqlType
types_in = fold-Scan (List SqlType) (List SqlType) types_in_rex types_in_scan
