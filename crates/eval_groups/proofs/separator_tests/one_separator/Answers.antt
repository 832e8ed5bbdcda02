use Rattle.std.proofs.Common.{◌≡◌, List, ℕ, [], get_or, subst}
use Rattle.std.specs.List.{All}
use Rattle.sql_types.specs.declared.value.Value.TheVariants.{Null}
use Rattle.eval_groups.proofs.TestLaws.{one_separator}
use Rattle.eval_groups.proofs.separator_tests.one_separator.Goals as goal

pub returns-in-len1-up : goal.returns-in-len1-up
returns-in-len1-up c = λ e.
    one_separator c.args.rows.now c.args.group.now c.unwrap_or.result.now
    (subst (λ (z : List ℕ). All (λ (number : ℕ). get_or (get_or c.args.rows.now.rows number []) 2 Null ≡ c.unwrap_or.result.now) z) c.as_slice-in-len1-up.ensures (c.all_have.ensures e))
