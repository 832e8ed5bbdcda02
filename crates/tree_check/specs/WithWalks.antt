-- A query of a WITH list with the walk of its scan.
use Rattle.resolved_ast.specs.declared.scan.Cte.{Cte}
use Rattle.resolved_ast.specs.declared.scan.Scan.{Scan}
use Rattle.resolved_ast.specs.Flaws.{Walks, ScanPart}

abbrev pub cte_part : {S : Type 0} → (S → Scan) → (S → Walks) → Cte S → Cte ScanPart
cte_part scan_of walk c = record { number = c.number; columns = c.columns; scan = (scan_of c.scan, walk c.scan) }
