-- The page with the operators that are left is the page with all operators.
use Rattle.std.proofs.Common.{◌≡◌, drop}
use Rattle.sql_print.specs.Pages.{written}
use Rattle.sql_print.specs.ExprPieces.{prefixes}
use Rattle.sql_print.proofs.exprs.print_prefixes.Given as goal

abbrev pub invariant-loop-prefix : goal.invariant-loop-prefix
invariant-loop-prefix l = written l.writer (prefixes (drop l.prefix-index l.operators)) ≡ written l.initial.writer (prefixes l.operators)
