-- The dates of the values so far lie in DATE's range.
use Rattle.std.proofs.Common.{◌≡◌, true, take}
use Rattle.std.specs.List.{list_all}
use Rattle.sql_ast.specs.Literals.{dates_fit}
use Rattle.sql_ast.proofs.date_ranges.+dates.Given as goal

abbrev pub invariant-all_dates_fit-loop-value : goal.invariant-all_dates_fit-loop-value
invariant-all_dates_fit-loop-value l = list_all dates_fit (take l.value-index l.values) ≡ true
