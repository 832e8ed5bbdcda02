use Rattle.sql_types.specs.declared.sql_type.SqlType.TheVariants as types
use Rattle.sql_strings.proofs.JoinLaws.{fit-later, joined-text}
use Rattle.sql_strings.proofs.concat.joined_texts.Goals as goal

pub loop-value-preserved : goal.loop-value-preserved
loop-value-preserved c = record {
  so_far = joined-text _ _ c.text_of.result.now c.args.values.now c.loop-value.value-index c.value-item.result _ c.loop-value-test.true c.value-item.is c.text_of.utf8 c.text_of.ensures
      c.in_ok-push_str.ensures.bytes c.loop-value.invariant.so_far;
  fit = fit-later types.Text c.args.values.now c.loop-value.value-index c.value-item.result c.loop-value-test.true c.loop-value.invariant.fit;
}
