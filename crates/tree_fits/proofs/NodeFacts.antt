-- What is claimed of the parts of a tree, and of its nodes over what their parts mean.
use Rattle.std.proofs.Common.{List}
use Rattle.sql_types.specs.declared.rows.Param.{Param}
use Rattle.resolved_ast.specs.declared.rex.Rex.{Rex}
use Rattle.resolved_ast.specs.declared.rex.Rex.TheOpen.{Rex-F, Scan-F}
use Rattle.resolved_ast.specs.declared.scan.Scan.{Scan, map-Scan}
use Rattle.resolved_ast.specs.declared.column.MadeColumn.{MadeColumn}
use Rattle.resolved_ast.specs.Columns.{columns, scan_columns, rex_type, rex_type_layer}
use Rattle.resolved_ast.specs.Fitting.{SlotsFit}
use Rattle.resolved_ast.specs.Flaws.{Sight, below}
use Rattle.resolved_ast.specs.Meanings.{TableRows, Means, rex_means, scan_means}
use Rattle.resolved_ast.specs.Slots.{Slots}
use Rattle.tree_fits.proofs.WalkTypes.{Typing, Agrees}
use Rattle.tree_fits.proofs.RowFits.{SightAgrees, TableFits}
use Rattle.tree_fits.proofs.Sure.{Sure}
use Rattle.tree_fits.proofs.FittingForms.{Of}

-- in slots that fit what it sees, an expression gives values of its type
pub record RexOk (p : Means) (T : Typing) (sight : Sight) (x : Rex) : Type 0 where
  pub gives : SightAgrees T sight → (slots : Slots) → SlotsFit sight slots → Sure (p.rex x slots) (Of (rex_type x))

-- a scan's columns have their numbers' types, and in slots that fit what it sees it gives rows of these
pub record ScanOk (p : Means) (T : Typing) (sight : Sight) (x : Scan) : Type 0 where
  pub agrees : Agrees T (columns x)
  pub gives : SightAgrees T sight → (slots : Slots) → SlotsFit sight slots → Sure (p.scan x slots) (TableFits T (columns x))

-- the columns of a node, over those of its parts
abbrev pub node_columns : Scan-F Rex Scan → List MadeColumn
node_columns z = scan_columns (map-Scan Rex Scan (Unit {0}) (List MadeColumn) (λ x. tt) columns z)

module _ (tables : TableRows) (params : List Param) where
  pub record RexNodeOk (p : Means) (T : Typing) (sight : Sight) (z : Rex-F Rex Scan) : Type 0 where
    pub gives : SightAgrees T sight → (slots : Slots) → SlotsFit sight slots → Sure (rex_means tables params p z slots) (Of (rex_type_layer z))

  pub record ScanNodeOk (p : Means) (T : Typing) (sight : Sight) (z : Scan-F Rex Scan) : Type 0 where
    pub agrees : Agrees T (node_columns z)
    pub gives : SightAgrees T sight → (slots : Slots) → SlotsFit sight slots → Sure (scan_means tables params p z slots) (TableFits T (node_columns z))

-- a subquery sees the same columns, all of them outside
pub below_fits : (sight : Sight) (slots : Slots) → SlotsFit sight slots → SlotsFit (below sight) slots
below_fits sight slots fit = record { values = fit.values; ctes = fit.ctes }
