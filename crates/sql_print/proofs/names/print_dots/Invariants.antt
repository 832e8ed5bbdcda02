-- The page with the names that are left is the page with all names.
use Rattle.std.proofs.Common.{◌≡◌, drop}
use Rattle.sql_ast.specs.Canon.{dots}
use Rattle.sql_print.specs.Pages.{written}
use Rattle.sql_print.proofs.names.print_dots.Given as goal

abbrev pub invariant-loop-name : goal.invariant-loop-name
invariant-loop-name l = written l.writer (dots (drop l.name-index l.names)) ≡ written l.initial.writer (dots l.names)
