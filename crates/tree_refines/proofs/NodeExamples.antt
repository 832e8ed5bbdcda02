-- What a Table node names, by computation.
use Rattle.std.proofs.Common.{◌≡◌, ℕ, List, [], ◌∷◌, codes, Some, sym, ◌∙◌, ap}
use Rattle.sql_types.specs.declared.sql_type.SqlType.{SqlType}
use Rattle.sql_types.specs.declared.sql_type.SqlType.TheVariants as ty
use Rattle.resolved_ast.specs.declared.column.MadeColumn.{MadeColumn}
use Rattle.resolved_ast.specs.declared.rex.Rex.TheOpen as t
use Rattle.resolved_ast.specs.declared.scan.Scan.{Scan, fold-Scan, fold-roll-Scan}
use Rattle.resolved_ast.specs.declared.scan.Scan.TheVariants as scan
use Rattle.tree_refines.specs.Nodes.{TableNode, table_nodes, tables_in_rex, tables_in_scan, made_columns, made_in_rex, made_in_scan, types_in, types_in_rex, types_in_scan}

columns : List MadeColumn
columns = record { name = Some (codes "a"); id = record { 0 = 1 }; ty = ty.Int64 } ∷ record { name = Some (codes "b"); id = record { 0 = 2 }; ty = ty.Text } ∷ []

abbrev table : Scan
table = scan.Table (codes "t") 0 columns

named_once : table_nodes table ≡ record { name = codes "t"; number = 0; columns = columns } ∷ []
unfolding table_nodes
named_once = ap (fold-Scan (List TableNode) (List TableNode) tables_in_rex tables_in_scan) (sym (scan.rolls-Table (codes "t") 0 columns)) ∙ fold-roll-Scan (List TableNode) (List TableNode) tables_in_rex tables_in_scan (t.Table (codes "t") 0 columns)

made_in_order : made_columns table ≡ 1 ∷ 2 ∷ []
unfolding made_columns columns
made_in_order = ap (fold-Scan (List ℕ) (List ℕ) made_in_rex made_in_scan) (sym (scan.rolls-Table (codes "t") 0 columns)) ∙ fold-roll-Scan (List ℕ) (List ℕ) made_in_rex made_in_scan (t.Table (codes "t") 0 columns)

types_named : types_in table ≡ ty.Int64 ∷ ty.Text ∷ []
unfolding types_in columns
types_named = ap (fold-Scan (List SqlType) (List SqlType) types_in_rex types_in_scan) (sym (scan.rolls-Table (codes "t") 0 columns)) ∙ fold-roll-Scan (List SqlType) (List SqlType) types_in_rex types_in_scan (t.Table (codes "t") 0 columns)
