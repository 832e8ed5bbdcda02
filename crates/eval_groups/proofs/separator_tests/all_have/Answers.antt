use Rattle.std.proofs.Common.{◌≡◌, ℕ, [], get_or, arith, subst}
use Rattle.std.specs.List.{All}
use Rattle.std.proofs.lemmas.List.{take_all}
use Rattle.sql_types.specs.declared.value.Value.TheVariants.{Null}
use Rattle.eval_groups.proofs.TestLaws.{front_more}
use Rattle.eval_groups.proofs.separator_tests.all_have.Goals as goal

pub loop-number-preserved : goal.loop-number-preserved
loop-number-preserved c =
    front_more (λ (number : ℕ). get_or (get_or c.args.rows.now.rows number []) 2 Null ≡ c.args.separator.now) c.args.numbers.now c.loop-number.number-index 0 c.loop-number-test.true c.loop-number.invariant (c.has.ensures c.if-not-has.false)

pub returns : goal.returns
returns c = λ _.
    subst (All (λ (number : ℕ). get_or (get_or c.args.rows.now.rows number []) 2 Null ≡ c.args.separator.now)) (take_all c.loop-number.number-index c.args.numbers.now (omega (arith, c.loop-number-test.false))) c.loop-number.invariant
