use Rattle.std.proofs.Common.{◌<◌, ◌∙◌, Bool, List, true, length, set, ap, arith}
use Rattle.std.proofs.lemmas.List.{length-set}
use Rattle.eval_rows.proofs.NoteLaws.{by_none, noted_true, noted_false}
use Rattle.eval_rows.proofs.join_parts.note_met.Goals as goal
use Rattle.eval_rows.proofs.join_parts.note_met.Goals.{then-keep, else-keep}

pub loop-place-init : goal.loop-place-init
loop-place-init c = (by_none c.args.had, c.requires)

pub loop-place-preserved : goal.loop-place-preserved
loop-place-preserved c =
    let i = c.loop-place.place in
    let few : i < length c.args.had = omega arith in
    elim c.if-keep.branch [
      | then-keep w ↦
          let put = w.had-is ∙ w.set.ensures in (
            put ∙ ap (λ (z : List Bool). set z i true) c.loop-place.invariant.0 ∙ noted_true c.args.had c.args.kept.now i _ few c.loop-place-test.true w.if-keep.true,
            ap length put ∙ length-set c.loop-place.had i true ∙ c.loop-place.invariant.1,
          )
      | else-keep w ↦ (
        w.had-is ∙ c.loop-place.invariant.0 ∙ noted_false c.args.had c.args.kept.now i _ few c.loop-place-test.true w.if-keep.false,
        ap length w.had-is ∙ c.loop-place.invariant.1,
      )
    ]
