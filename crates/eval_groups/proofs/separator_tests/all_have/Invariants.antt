-- The rows so far have the separator.
use Rattle.std.proofs.Common.{◌≡◌, [], take, get_or}
use Rattle.std.specs.List.{All}
use Rattle.sql_types.specs.declared.value.Value.TheVariants.{Null}
use Rattle.eval_groups.proofs.separator_tests.all_have.Given as goal

abbrev pub invariant-loop-number : goal.invariant-loop-number
invariant-loop-number l = All (λ number. get_or (get_or l.rows.rows number []) 2 Null ≡ l.separator) (take l.number-index l.numbers)
