-- The page with the parts that are left is the page with all parts.
use Rattle.std.proofs.Common.{◌≡◌, drop}
use Rattle.sql_print.specs.Pages.{written}
use Rattle.sql_print.specs.PartPieces.{run}
use Rattle.sql_print.proofs.printed.print_run.Given as goal

abbrev pub invariant-loop-part : goal.invariant-loop-part
invariant-loop-part g l = written l.writer (run g.P.Printed.pieces (drop l.part-index l.list)) ≡ written l.initial.writer (run g.P.Printed.pieces l.list)
