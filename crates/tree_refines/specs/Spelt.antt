-- Trees and catalogs whose names and types are those of texts.
use Rattle.std.specs.Prelude.{◌≡◌, ℕ, ◌≤◌, Bool, true, false, ◌&&◌, not, nat_le, List, ◌++◌, map, length, Option, None, Some, Ok}
use Rattle.std.specs.List.{list_all, IsDistinct}
use Rattle.sql_types.specs.declared.sql_type.Named.{Named}
use Rattle.sql_types.specs.declared.sql_type.SqlType.{SqlType, out-SqlType, para-SqlType}
use Rattle.sql_types.specs.declared.sql_type.SqlType.TheOpen as type
use Rattle.sql_types.specs.Parted.{Each}
use Rattle.sql_names.specs.Words.{same_name}
use Rattle.sql_ast.specs.declared.expr.Expr.{Expr}
use Rattle.sql_ast.specs.Grammar.{ExprOf}
use Rattle.sql_ast.specs.Marks.{Tokens}
use Rattle.sql_ast.specs.Tokens.{TokensOf}
use Rattle.sql_same.specs.Bare.{as_is, BareExpr}
use Rattle.sql_print.specs.ReadBack.{SpellsAside}
use Rattle.sql_catalog.specs.declared.entries.Argument.{Argument}
use Rattle.sql_catalog.specs.declared.entries.Definition.{Definition}
use Rattle.sql_catalog.specs.declared.entries.Definition.TheVariants.{View, Function}
use Rattle.sql_catalog.specs.declared.entries.Entries.{Entries}
use Rattle.sql_catalog.specs.declared.entries.FunctionDef.{FunctionDef}
use Rattle.sql_catalog.specs.declared.entries.ParamDef.{ParamDef}
use Rattle.sql_catalog.specs.declared.entries.TableDef.{TableDef}
use Rattle.sql_catalog.specs.declared.entries.Written.{Written}
use Rattle.sql_catalog.specs.declared.entries.Written.TheVariants as written
use Rattle.resolved_ast.specs.declared.scan.Output.{Output}
use Rattle.resolved_ast.specs.declared.scan.Tree.{Tree}
use Rattle.resolved_ast.specs.Fitting.{named}
use Rattle.tree_refines.specs.Nodes.{TableNode, ParamNode, table_nodes, param_nodes, types_in}

-- ---- names and types

-- a name has 1 to 128 bytes
abbrev pub name_spelt : List ℕ → Bool
name_spelt name = nat_le 1 (length name) && nat_le (length name) 128

-- it may be missing
abbrev pub maybe_spelt : Option (List ℕ) → Bool
maybe_spelt None = true
maybe_spelt (Some name) = name_spelt name

abbrev pub is_array : type.SqlType-F SqlType → Bool
is_array (type.Array element) = true
is_array _ = false

-- Each part stands with whether it is spelt. An ARRAY is of no ARRAY, and a STRUCT has one or more fields.
abbrev pub type_layer : type.SqlType-F (SqlType × Bool) → Bool
type_layer (type.Array element) = not (is_array (out-SqlType element.0)) && element.1
type_layer (type.Struct fields) = nat_le 1 (length fields) && list_all (λ f. maybe_spelt f.name && f.ty.1) fields
type_layer _ = true

unfoldable pub type_spelt : SqlType → Bool
type_spelt = para-SqlType Bool type_layer

-- each column of a table has a name, which no other has, and a type
pub record ColumnsSpelt (columns : List (Named SqlType)) : Type 0 where
  pub names : List (List ℕ)
  pub named : map (λ (c : Named SqlType). c.name) columns ≡ map Some names
  pub spelt : list_all name_spelt names ≡ true
  pub once : IsDistinct same_name names
  pub types : list_all (λ (c : Named SqlType). type_spelt c.ty) columns ≡ true

-- ---- trees

pub record TableSpelt (node : TableNode) : Type 0 where
  pub name : name_spelt node.name ≡ true
  pub columns : ColumnsSpelt (named node.columns)

-- A query may have this tree's outputs: there is one, and each name and each type is one of a text's.
pub record Spelt (tree : Tree) : Type 0 where
  pub some : 1 ≤ length tree.outputs
  pub outputs : list_all (λ (o : Output). maybe_spelt o.name) tree.outputs ≡ true
  pub tables : Each TableSpelt (table_nodes tree.scan)
  pub params : Each (λ (p : ParamNode). name_spelt p.name ≡ true) (param_nodes tree.scan)
  pub types : list_all type_spelt (map (λ (o : Output). o.ty) tree.outputs ++ types_in tree.scan) ≡ true

-- ---- catalogs

-- a text spells an expression, places aside
pub record BodySpells (text : List ℕ) (body : Expr) : Type 0 where
  pub read : Expr
  pub tokens : Tokens
  pub lexed : TokensOf text (Ok tokens)
  pub spells : ExprOf read tokens
  pub same : BareExpr as_is read ≡ BareExpr as_is body

-- a definition's tree, where it has one, is spelled by some text, places aside
abbrev pub WrittenSpelt : {T : Type 0} → (List ℕ → T → Type 0) → Written T → Type 0
WrittenSpelt Spells (written.Tree tree) = (text : List ℕ) × Spells text tree
WrittenSpelt Spells (written.NoTree place) = Unit {0}
WrittenSpelt Spells written.Nested = Unit {0}

abbrev pub argument_spelt : Argument → Bool
argument_spelt a = name_spelt a.name && (elim a.ty [ None ↦ true | Some ty ↦ type_spelt ty ])

pub record FunctionSpelt (function : FunctionDef) : Type 0 where
  pub arguments : list_all argument_spelt function.arguments ≡ true
  pub once : IsDistinct same_name (map (λ (a : Argument). a.name) function.arguments)
  pub body : WrittenSpelt BodySpells function.body

abbrev pub DefinitionSpelt : Definition → Type 0
DefinitionSpelt (View view) = WrittenSpelt SpellsAside view.query
DefinitionSpelt (Function function) = FunctionSpelt function

pub record SpeltCatalog (catalog : Entries) : Type 0 where
  pub tables : Each (λ (t : TableDef). (name_spelt t.name ≡ true) × ColumnsSpelt t.columns) catalog.tables
  pub params : Each (λ (p : ParamDef). (name_spelt p.name && type_spelt p.ty) ≡ true) catalog.params
  pub definitions : Each DefinitionSpelt catalog.definitions
