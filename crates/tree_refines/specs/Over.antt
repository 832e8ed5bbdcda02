-- Trees over a catalog.
use Rattle.std.specs.Prelude.{◌≡◌, ℕ, slice_get, Some}
use Rattle.sql_types.specs.Parted.{Each}
use Rattle.sql_catalog.specs.declared.entries.Entries.{Entries}
use Rattle.sql_catalog.specs.declared.entries.ParamDef.{ParamDef}
use Rattle.sql_catalog.specs.declared.entries.TableDef.{TableDef}
use Rattle.resolved_ast.specs.declared.scan.Tree.{Tree}
use Rattle.resolved_ast.specs.Fitting.{named}
use Rattle.tree_refines.specs.Nodes.{TableNode, ParamNode, table_nodes, param_nodes}

-- a Table node has the name, the number and the columns of an entry, each column with its name and type
pub record OfTable (catalog : Entries) (node : TableNode) : Type 0 where
  pub entry : TableDef
  pub stands : slice_get catalog.tables node.number ≡ Some entry
  pub name : node.name ≡ entry.name
  pub columns : named node.columns ≡ entry.columns

-- a Parameter node has the name and the type of an entry
pub record OfParam (catalog : Entries) (node : ParamNode) : Type 0 where
  pub entry : ParamDef
  pub number : ℕ
  pub stands : slice_get catalog.params number ≡ Some entry
  pub name : node.name ≡ entry.name
  pub ty : node.ty ≡ entry.ty

-- each Table and Parameter node agrees with its entry
pub record Over (catalog : Entries) (tree : Tree) : Type 0 where
  pub tables : Each (OfTable catalog) (table_nodes tree.scan)
  pub params : Each (OfParam catalog) (param_nodes tree.scan)
