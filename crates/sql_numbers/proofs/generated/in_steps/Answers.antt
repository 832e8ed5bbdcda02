use Rattle.std.proofs.Common.{rules, arith, ◌≡◌, ◌∙◌, [], ◌∷◌, ◌+ℤ◌, ◌++◌, FitsSigned, to_z, of_z}
use Rattle.std.proofs.lemmas.Int.{ints, to_z-of_z}
use Rattle.std.specs.Int.{w64, w128}
use Rattle.sql_types.specs.declared.value.Value.TheVariants as value
use Rattle.sql_numbers.proofs.StepLaws.{one_more, one_further}
use Rattle.sql_numbers.proofs.generated.in_steps.Goals as goal

pub loop-preserved : goal.loop-preserved
loop-preserved c =
    let pushed : c.push.new.self ≡ c.loop.numbers ++ (value.Int (to_z w128 c.loop.number-bits) ∷ []) = search rules in
    let low : FitsSigned w64 (to_z w128 c.loop.number-bits) = search rules in
    let size : FitsSigned w64 (to_z w128 (of_z w128 c.args.step)) = search rules in
    let sum : FitsSigned w128 (to_z w128 c.loop.number-bits +ℤ to_z w128 (of_z w128 c.args.step)) = omega (arith, ints, low, size) in
    (pushed ∙ one_more _ _ _ _ _ c.loop.invariant.0 c.loop.invariant.1, to_z-of_z w128 _ sum ∙ one_further _ _ _ _ c.loop.invariant.1)
