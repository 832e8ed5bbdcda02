-- The page with the parts that are left is the page with all parts.
use Rattle.std.proofs.Common.{◌≡◌, drop, map}
use Rattle.sql_ast.specs.Pieces.{after_commas}
use Rattle.sql_print.specs.Pages.{written}
use Rattle.sql_print.proofs.printed.print_after_commas.Given as goal

abbrev pub invariant-loop-part : goal.invariant-loop-part
invariant-loop-part g l = written l.writer (after_commas (map g.P.Printed.pieces (drop l.part-index l.parts))) ≡ written l.initial.writer (after_commas (map g.P.Printed.pieces l.parts))
