-- The page with the NOTs that are left is the page with all of them.
use Rattle.std.proofs.Common.{◌≡◌, drop}
use Rattle.sql_print.specs.ExprPieces.{nots}
use Rattle.sql_print.specs.Pages.{written}
use Rattle.sql_print.proofs.exprs.print_nots.Given as goal

abbrev pub invariant-loop-place : goal.invariant-loop-place
invariant-loop-place l = written l.writer (nots (drop l._place-index l.operators)) ≡ written l.initial.writer (nots l.operators)
