-- The page with the links that are left is the page with all links.
use Rattle.std.proofs.Common.{◌≡◌, drop}
use Rattle.sql_print.specs.Pages.{written}
use Rattle.sql_print.specs.PartPieces.{run, link_pieces}
use Rattle.sql_print.proofs.operands.print_links.Given as goal

abbrev pub invariant-loop-link : goal.invariant-loop-link
invariant-loop-link g l = written l.writer (run (link_pieces g.E.Leveled.level g.E.Printed.pieces l.needed) (drop l.link-index l.links)) ≡ written l.initial.writer (run (link_pieces g.E.Leveled.level g.E.Printed.pieces l.needed) l.links)
