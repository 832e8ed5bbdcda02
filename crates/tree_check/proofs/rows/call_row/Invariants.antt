-- The first of the rows left is the first of all.
use Rattle.std.proofs.Common.{◌≡◌, drop, map}
use Rattle.sql_builtins.specs.Seen.{seen}
use Rattle.sql_builtins.specs.Table.{functions}
use Rattle.resolved_ast.specs.Signatures.{row_among}
use Rattle.tree_check.proofs.rows.call_row.Given as goal

abbrev pub invariant-loop-row : goal.invariant-loop-row
invariant-loop-row l = row_among (map seen (drop l.row-index l.row-items)) l.signature ≡ row_among functions l.signature
